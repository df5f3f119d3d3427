-- Which nodes are syntax of TypeScript alone: wrappers, and what is erased.
use Rattle.std.specs.Prelude.{List, [], ◌∷◌, Bool, false, ◌&&◌, ◌||◌, codes}
use Rattle.std.specs.List.{list_any}
use Rattle.oxt_grammar.specs.Places.{kind_in, same_kind}
use Rattle.oxt_grammar.specs.declared.category.Category.TheVariants as category
use Rattle.oxt_grammar.specs.declared.kind.Kind.{Kind}
use Rattle.oxt_grammar.specs.declared.kind.Kind.TheVariants as kind
use Rattle.oxt_tree.specs.Doc.{Doc, nil, flag, number, text, list, node, Docs}
use Rattle.oxt_tree.specs.Fields.{named, field_of, is_set, is_text, is_kind}

-- the kinds whose nodes are erased whatever they hold
abbrev pub erased_kinds : List Kind
erased_kinds =
    kind.TSTypeAliasDeclaration ∷ kind.TSInterfaceDeclaration ∷ kind.TSGlobalDeclaration ∷
    kind.TSExternalModuleDeclaration ∷ kind.TSNamespaceExportDeclaration ∷ kind.TSDeclareFunction ∷
    kind.TSEmptyBodyFunctionExpression ∷ kind.TSAbstractMethodDefinition ∷
    kind.TSAbstractPropertyDefinition ∷ kind.TSAbstractAccessorProperty ∷ kind.TSIndexSignature ∷ []

abbrev pub is_erased_kind : Kind → Bool
is_erased_kind k = list_any (λ j. same_kind k j) erased_kinds

-- an import or export of types alone
abbrev pub is_type_only : Kind → Docs → Bool
is_type_only k ds =
    is_text (codes "type") (named (codes "importKind") k ds)
    || is_text (codes "type") (named (codes "exportKind") k ds)

-- a method without body
abbrev pub lacks_body : Kind → Docs → Bool
lacks_body k ds = is_kind kind.TSEmptyBodyFunctionExpression (named (codes "value") k ds)

-- erased by its kind, by `declare` or `type`, or for want of a body
abbrev pub is_erased : Kind → Docs → Bool
is_erased k ds =
    is_erased_kind k
    || (is_set (named (codes "declare") k ds) || (is_type_only k ds || lacks_body k ds))

abbrev pub is_erased_node : Doc → Bool
is_erased_node nil = false
is_erased_node (flag b) = false
is_erased_node (number n) = false
is_erased_node (text t) = false
is_erased_node (list ds) = false
is_erased_node (node k i b e ds) = is_erased k ds

-- A wrapper, what is erased, and an export of what is erased.
abbrev pub is_typescript_syntax : Kind → Docs → Bool
is_typescript_syntax k ds =
    kind_in category.Wrapper k
    || (is_erased k ds || is_erased_node (named (codes "declaration") k ds))

-- the program of a file of definitions
abbrev pub is_definition_file : Doc → Bool
is_definition_file d = is_text (codes "dts") (field_of (codes "lang") d)

-- A declaration that stands for nothing at run time: by its kind, by `declare` or `type`, or for want of a body.
abbrev pub is_mere_declaration : Doc → Bool
is_mere_declaration nil = false
is_mere_declaration (flag b) = false
is_mere_declaration (number n) = false
is_mere_declaration (text t) = false
is_mere_declaration (list ds) = false
is_mere_declaration (node k i b e ds) = kind_in category.Declaration k && is_erased k ds
