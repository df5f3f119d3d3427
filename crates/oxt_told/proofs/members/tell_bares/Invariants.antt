-- What is told so far, and then of the references that are left.
use Rattle.std.proofs.Common.{◌≡◌, drop}
use Rattle.oxt_told.specs.Source.{all_told, around_view, bares}
use Rattle.oxt_told.proofs.members.tell_bares.Given as goal

abbrev pub invariant-loop-reference : goal.invariant-loop-reference
invariant-loop-reference l = all_told l.initial.told (bares l.scoping (around_view l.around) l.references) ≡ all_told l.told (bares l.scoping (around_view l.around) (drop l.reference-index l.references))
