-- Where something is assigned.
use Rattle.std.specs.Prelude.{Bool, true, false}
use Rattle.oxt_grammar.specs.declared.category.Category.{Category}
use Rattle.oxt_grammar.specs.declared.category.Category.TheVariants as category
use Rattle.oxt_grammar.specs.declared.holds.Holds.{Holds}
use Rattle.oxt_grammar.specs.declared.holds.Holds.TheVariants as holds

-- something is assigned there
abbrev pub is_target : Category → Bool
is_target category.SimpleAssignmentTarget = true
is_target category.AssignmentTarget = true
is_target category.AssignmentTargetMaybeDefault = true
is_target category.ForStatementLeft = true
is_target c = false

-- something is assigned to what the field holds, or to each element of its list
abbrev pub holds_target : Holds → Bool
holds_target (holds.Node c) = is_target c
holds_target (holds.NodeOrNull c) = is_target c
holds_target (holds.List c) = is_target c
holds_target (holds.ListOfNullable c) = is_target c
holds_target h = false
