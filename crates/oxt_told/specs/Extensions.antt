-- What is told of the specifiers of modules, whose extensions are rewritten.
use Rattle.std.specs.Prelude.{ℕ, List, [], ◌∷◌, Bool, true, false, ◌&&◌, if◌then◌else◌, Option, None, Some, codes}
use Rattle.std.specs.Option.{option_or}
use Rattle.oxt_facts.specs.Told.{Tellings, inlined, quasi}
use Rattle.oxt_grammar.specs.Places.{same_kind}
use Rattle.oxt_grammar.specs.declared.kind.Kind.{Kind}
use Rattle.oxt_grammar.specs.declared.kind.Kind.TheVariants as kind
use Rattle.oxt_names.specs.Constant.{string}
use Rattle.oxt_options.specs.Rewrite.{rewritten}
use Rattle.oxt_options.specs.declared.rewrite.RewriteExtensionsMode.{RewriteExtensionsMode}
use Rattle.oxt_tree.specs.Doc.{Doc, nil, flag, number, text, list, node, Docs}
use Rattle.oxt_tree.specs.Fields.{elements, first, is_empty_list, named, text_in}

-- the text, if rewriting changes it
abbrev pub changed : RewriteExtensionsMode → Option (List ℕ) → Option (List ℕ)
changed m None = None
changed m (Some t) = rewritten m t

-- the text after rewriting
abbrev pub after : RewriteExtensionsMode → Option (List ℕ) → Option (List ℕ)
after m t = option_or (changed m t) t

-- a string of that number, if it changes
abbrev pub string_told : ℕ → Option (List ℕ) → Tellings
string_told i None = []
string_told i (Some t) = (i, inlined (string t)) ∷ []

-- a piece of a template; each of its texts is rewritten by itself
abbrev pub piece_told : RewriteExtensionsMode → Doc → Tellings
piece_told m nil = []
piece_told m (flag b) = []
piece_told m (number n) = []
piece_told m (text t) = []
piece_told m (list ds) = []
piece_told m (node k i b e ds) =
    (i, quasi (after m (text_in (named (codes "raw") k ds))) (after m (text_in (named (codes "cooked") k ds)))) ∷ []

-- a template without substitutions, which is one piece
abbrev pub is_one_piece : Kind → Docs → Bool
is_one_piece k ds =
    same_kind k kind.TemplateLiteral && is_empty_list (list (elements (named (codes "expressions") k ds)))

-- a specifier, if it is a string or a template without substitutions
abbrev pub source_told : RewriteExtensionsMode → Doc → Tellings
source_told m nil = []
source_told m (flag b) = []
source_told m (number n) = []
source_told m (text t) = []
source_told m (list ds) = []
source_told m (node k i b e ds) =
    if same_kind k kind.StringLiteral then string_told i (changed m (text_in (named (codes "value") k ds)))
    else if is_one_piece k ds then piece_told m (first (elements (named (codes "quasis") k ds)))
    else []

-- the kinds of nodes whose source is the specifier of a module
abbrev pub has_source : Kind → Bool
has_source kind.ImportDeclaration = true
has_source kind.ExportFromDeclaration = true
has_source kind.ExportAllDeclaration = true
has_source kind.ImportExpression = true
has_source k = false

-- the specifier of such a node, where extensions are rewritten
abbrev pub extension_told : Option RewriteExtensionsMode → Doc → Tellings
extension_told None d = []
extension_told (Some m) d = source_told m d
