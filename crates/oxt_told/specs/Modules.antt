-- What is told of the imports and exports of a source, by which specifiers are kept.
use Rattle.std.specs.Prelude.{ℕ, [], ◌∷◌, ◌++◌, Bool, if◌then◌else◌, codes}
use Rattle.oxt_facts.specs.Told.{Tellings, gone, listless}
use Rattle.oxt_modules.specs.Removed.{is_listing, is_removed_by, loses_all}
use Rattle.oxt_grammar.specs.declared.kind.Kind.{Kind}
use Rattle.oxt_tree.specs.Doc.{Doc, node, Docs, no_docs, doc}
use Rattle.oxt_tree.specs.Fields.{elements, field_of, named}

-- a specifier does nothing, unless it is kept
abbrev pub specifier_told : (ℕ → Bool) → Doc → Tellings
specifier_told ks (node k i b e ds) = if ks i then [] else (i, gone) ∷ []
specifier_told ks d = []

abbrev pub specifiers_told : (ℕ → Bool) → Docs → Tellings
specifiers_told ks no_docs = []
specifiers_told ks (doc d ds) = specifier_told ks d ++ specifiers_told ks ds

-- An import or an export of names, of that number, that stays. Only an import may lose all its specifiers and stay.
abbrev pub list_told : (ℕ → Bool) → ℕ → Docs → Tellings
list_told ks i ss = (if loses_all ks ss then (i, listless) ∷ [] else []) ++ specifiers_told ks ss

-- a statement of that number
abbrev pub statement_told_by : (ℕ → Bool) → Bool → Kind → ℕ → Docs → Tellings
statement_told_by ks all k i ds =
    if is_removed_by ks all k i ds then (i, gone) ∷ []
    else if is_listing k then list_told ks i (elements (named (codes "specifiers") k ds))
    else []

abbrev pub statement_told : (ℕ → Bool) → Bool → Doc → Tellings
statement_told ks all (node k i b e ds) = statement_told_by ks all k i ds
statement_told ks all d = []

abbrev pub statements_told : (ℕ → Bool) → Bool → Docs → Tellings
statements_told ks all no_docs = []
statements_told ks all (doc d ds) = statement_told ks all d ++ statements_told ks all ds

-- What is told of the statements of a program: one that is removed does nothing, nor does a specifier that is not kept, and
-- an import that stays may lose its list. With `all` such an import stays.
abbrev pub modules_told : (ℕ → Bool) → Bool → Doc → Tellings
modules_told ks all d = statements_told ks all (elements (field_of (codes "body") d))
