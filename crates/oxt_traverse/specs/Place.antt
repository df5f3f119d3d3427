-- Where nodes stand.
use Rattle.std.specs.Prelude.{Bool, true, false, not, Option, None, Some}
use Rattle.oxt_grammar.specs.Places.{same_kind}
use Rattle.oxt_grammar.specs.declared.category.Category.{Category}
use Rattle.oxt_grammar.specs.declared.category.Category.TheVariants as category
use Rattle.oxt_grammar.specs.declared.holds.Holds.{Holds}
use Rattle.oxt_grammar.specs.declared.holds.Holds.TheVariants as holds
use Rattle.oxt_grammar.specs.declared.kind.Kind.{Kind}
use Rattle.oxt_grammar.specs.declared.kind.Kind.TheVariants as kind

-- the place of the nodes that a field holds
abbrev pub place_of : Holds → Option Category
place_of (holds.Node c) = Some c
place_of (holds.NodeOrNull c) = Some c
place_of (holds.Narrowed c d) = Some c
place_of (holds.List c) = Some c
place_of (holds.ListOfNullable c) = Some c
place_of (holds.ListOrNull c) = Some c
place_of h = None

-- what stands there are statements
abbrev pub is_statements : Category → Bool
is_statements category.Statement = true
is_statements category.Item = true
is_statements c = false

-- a node of the kind is there the expression that an arrow returns
abbrev pub is_body : Category → Kind → Bool
is_body category.ArrowFunctionBody k = not (same_kind k kind.FunctionBody)
is_body c k = false
