-- What was told so far stands in front of what is told of the rest.
use Rattle.std.proofs.Common.{◌≡◌, ◌++◌, map, drop}
use Rattle.oxt_grammar.specs.Field.{row_view}
use Rattle.oxt_check.specs.Diagnostics.{told_among, told_below}
use Rattle.oxt_options.specs.Facts.{is_in}
use Rattle.oxt_options.specs.Options.{transform_view}
use Rattle.oxt_tree.specs.View.{docs_in}
use Rattle.oxt_check.proofs.tell.+tell.Given as goal

abbrev pub invariant-tell_of_each-loop-part : goal.invariant-tell_of_each-loop-part
invariant-tell_of_each-loop-part l = l.initial.told.items ++ told_among (docs_in l.parts) (is_in l.sight.plan.now.kept) (transform_view l.sight.options.now) l.seat l.holds ≡ l.told.items ++ told_among (docs_in (drop l.part-index l.parts)) (is_in l.sight.plan.now.kept) (transform_view l.sight.options.now) l.seat l.holds

abbrev pub invariant-tell_of_fields-loop-i : goal.invariant-tell_of_fields-loop-i
invariant-tell_of_fields-loop-i l = l.initial.told.items ++ told_below (docs_in l.parts) (is_in l.sight.plan.now.kept) (transform_view l.sight.options.now) l.seat (map row_view l.rows) ≡ l.told.items ++ told_below (docs_in (drop l.i l.parts)) (is_in l.sight.plan.now.kept) (transform_view l.sight.options.now) l.seat (map row_view (drop l.i l.rows))
