-- What is told so far, and then of the parameters that are left.
use Rattle.std.proofs.Common.{◌≡◌, drop}
use Rattle.oxt_told.specs.Source.{all_told}
use Rattle.oxt_told.specs.Uses.{parameters_told}
use Rattle.oxt_tree.specs.View.{docs_in}
use Rattle.oxt_told.proofs.uses.tell_parameters.Given as goal

abbrev pub invariant-loop-place : goal.invariant-loop-place
invariant-loop-place l = all_told l.initial.told (parameters_told 0 (docs_in l.parameters)) ≡ all_told l.told (parameters_told l.place (docs_in (drop l.place l.parameters)))
