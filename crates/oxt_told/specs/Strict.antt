-- Whether a program is told to be strict.
use Rattle.std.specs.Prelude.{[], ◌∷◌, Bool, true, false, not, ◌&&◌, if◌then◌else◌, codes}
use Rattle.std.specs.List.{list_any}
use Rattle.oxt_facts.specs.Told.{Tellings, strict}
use Rattle.oxt_grammar.specs.declared.kind.Kind.{Kind}
use Rattle.oxt_options.specs.declared.options.Module.{Module}
use Rattle.oxt_options.specs.declared.options.Module.TheVariants.{CommonJs}
use Rattle.oxt_tree.specs.Doc.{Doc, nil, flag, number, text, list, node, Docs}
use Rattle.oxt_tree.specs.Fields.{docs_list, elements, field_of, is_text, named}

abbrev pub is_common_js : Module → Bool
is_common_js CommonJs = true
is_common_js m = false

-- the directive by which all code is strict
abbrev pub is_strict : Doc → Bool
is_strict d = is_text (codes "use strict") (field_of (codes "value") d)

-- One of the directives that are left says so; a definition file loses all.
abbrev pub says_strict : Kind → Docs → Bool
says_strict k ds =
    not (is_text (codes "dts") (named (codes "lang") k ds))
    && list_any is_strict (docs_list (elements (named (codes "directives") k ds)))

-- Under CommonJS a program is strict, and that is told where no directive says so.
abbrev pub strict_told : Module → Doc → Tellings
strict_told o nil = []
strict_told o (flag b) = []
strict_told o (number n) = []
strict_told o (text t) = []
strict_told o (list ds) = []
strict_told o (node k i b e ds) = if is_common_js o && not (says_strict k ds) then (i, strict) ∷ [] else []
