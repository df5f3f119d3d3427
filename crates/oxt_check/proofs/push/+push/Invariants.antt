-- The wrappers so far stand in front of those of what is left.
use Rattle.std.proofs.Common.{◌≡◌, ◌++◌, map, drop}
use Rattle.oxt_grammar.specs.Field.{row_view}
use Rattle.oxt_check.specs.Targets.{numbers_in, targets_among, targets_below}
use Rattle.oxt_tree.specs.View.{docs_in}
use Rattle.oxt_check.proofs.push.+push.Given as goal

abbrev pub invariant-push_from_each-loop-part : goal.invariant-push_from_each-loop-part
invariant-push_from_each-loop-part l = numbers_in l.initial.targets.items ++ targets_among l.legacy (docs_in l.parts) l.holds ≡ numbers_in l.targets.items ++ targets_among l.legacy (docs_in (drop l.part-index l.parts)) l.holds

abbrev pub invariant-push_from_fields-loop-i : goal.invariant-push_from_fields-loop-i
invariant-push_from_fields-loop-i l = numbers_in l.initial.targets.items ++ targets_below l.legacy (docs_in l.parts) (map row_view l.rows) ≡ numbers_in l.targets.items ++ targets_below l.legacy (docs_in (drop l.i l.parts)) (map row_view (drop l.i l.rows))
