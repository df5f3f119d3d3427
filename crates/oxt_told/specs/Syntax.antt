-- What is told of initializers by their form alone.
use Rattle.std.specs.Prelude.{Bool, not, ◌||◌, codes}
use Rattle.std.specs.List.{list_any}
use Rattle.oxt_grammar.specs.declared.kind.Kind.TheVariants as kind
use Rattle.oxt_tree.specs.Doc.{Doc, Docs}
use Rattle.oxt_tree.specs.Fields.{docs_list, field_of, is_kind}

-- a member whose initializer is itself a call
abbrev pub is_calling : Doc → Bool
is_calling d =
    is_kind kind.CallExpression (field_of (codes "initializer") d)
    || is_kind kind.NewExpression (field_of (codes "initializer") d)

-- none of the members is
abbrev pub is_pure : Docs → Bool
is_pure ds = not (list_any is_calling (docs_list ds))
