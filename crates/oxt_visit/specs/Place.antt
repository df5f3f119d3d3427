-- Where nodes stand, and which of them are expressions there.
use Rattle.std.specs.Prelude.{Bool, true, false, ◌&&◌, Option, None, Some}
use Rattle.oxt_grammar.specs.Places.{kind_in}
use Rattle.oxt_grammar.specs.declared.category.Category.{Category}
use Rattle.oxt_grammar.specs.declared.category.Category.TheVariants as category
use Rattle.oxt_grammar.specs.declared.holds.Holds.{Holds}
use Rattle.oxt_grammar.specs.declared.holds.Holds.TheVariants as holds
use Rattle.oxt_grammar.specs.declared.kind.Kind.{Kind}

-- the place of the nodes that a field holds; none where it holds no nodes
abbrev pub place_of : Holds → Option Category
place_of (holds.Node c) = Some c
place_of (holds.NodeOrNull c) = Some c
place_of (holds.Narrowed c d) = Some c
place_of (holds.List c) = Some c
place_of (holds.ListOfNullable c) = Some c
place_of (holds.ListOrNull c) = Some c
place_of h = None

-- Expressions may stand there.
abbrev pub holds_expressions : Category → Bool
holds_expressions category.Expression = true
holds_expressions category.Argument = true
holds_expressions category.PropertyKey = true
holds_expressions category.ForStatementInit = true
holds_expressions category.ArrowFunctionBody = true
holds_expressions category.ExportDefaultDeclarationKind = true
holds_expressions category.JSXExpression = true
holds_expressions c = false

-- A node of the kind is an expression there: where none may stand it is none, whatever its kind.
abbrev pub is_expression_kind : Category → Kind → Bool
is_expression_kind p k = holds_expressions p && kind_in category.Expression k
