-- The names so far stand in front of those of what is left.
use Rattle.std.proofs.Common.{◌≡◌, ◌++◌, map, drop}
use Rattle.oxt_grammar.specs.Field.{row_view}
use Rattle.oxt_tree.specs.Bound.{bound_views, names_of_each, names_of_fields}
use Rattle.oxt_tree.specs.View.{docs_in}
use Rattle.oxt_tree.proofs.bound.+names.Given as goal

abbrev pub invariant-push_from_each-loop-part : goal.invariant-push_from_each-loop-part
invariant-push_from_each-loop-part l = bound_views l.initial.names.items ++ names_of_each (docs_in l.parts) ≡ bound_views l.names.items ++ names_of_each (docs_in (drop l.part-index l.parts))

abbrev pub invariant-push_from_fields-loop-i : goal.invariant-push_from_fields-loop-i
invariant-push_from_fields-loop-i l = bound_views l.initial.names.items ++ names_of_fields (docs_in l.parts) (map row_view l.rows) ≡ bound_views l.names.items ++ names_of_fields (docs_in (drop l.i l.parts)) (map row_view (drop l.i l.rows))
