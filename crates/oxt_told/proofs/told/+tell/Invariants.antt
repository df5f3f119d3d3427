-- What is told so far, and then of what stands in the parts that are left.
use Rattle.std.proofs.Common.{◌≡◌, drop}
use Rattle.oxt_told.specs.Source.{all_told, asked_of, chosen_in, told_in_each}
use Rattle.oxt_tree.specs.View.{docs_in}
use Rattle.oxt_told.proofs.told.+tell.Given as goal

abbrev pub invariant-tell_in_each-loop-part : goal.invariant-tell_in_each-loop-part
invariant-tell_in_each-loop-part l = all_told l.initial.told (told_in_each l.source.scoping.now (asked_of l.source.plan.now) (chosen_in l.source) l.seat (docs_in l.parts)) ≡ all_told l.told (told_in_each l.source.scoping.now (asked_of l.source.plan.now) (chosen_in l.source) l.seat (docs_in (drop l.part-index l.parts)))
