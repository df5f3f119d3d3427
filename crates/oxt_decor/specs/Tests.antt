-- Tests of private names with `in`.
use Rattle.std.specs.Prelude.{Bool, false, ◌||◌}
use Rattle.std.specs.List.{list_any}
use Rattle.oxt_grammar.specs.Places.{same_kind}
use Rattle.oxt_grammar.specs.declared.category.Category.TheVariants as category
use Rattle.oxt_grammar.specs.declared.kind.Kind.TheVariants as kind
use Rattle.oxt_tree.specs.Doc.{Doc, node}
use Rattle.oxt_visit.specs.Calls.{Call, visited, entered, left}
use Rattle.oxt_visit.specs.Hooks.{expressions}
use Rattle.oxt_visit.specs.Visits.{visits}

-- a test of a private name
abbrev pub is_test : Doc → Bool
is_test (node k i b e ds) = same_kind k kind.PrivateInExpression
is_test d = false

-- the visit of one
abbrev pub tests : Call → Bool
tests (visited d e) = is_test d
tests (entered n) = false
tests left = false

-- what is noted of a visit, behind what was noted before: whether one was a test
abbrev pub note_test : Bool → Call → Bool
note_test before c = before || tests c

-- One of the expressions that are visited in the document is a test of a private name.
abbrev pub holds_test : Doc → Bool
holds_test d = list_any tests (visits expressions d category.Expression)
