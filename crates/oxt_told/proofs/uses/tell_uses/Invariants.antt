-- What is told so far, and then of the uses that are left.
use Rattle.std.proofs.Common.{◌≡◌, drop}
use Rattle.oxt_options.specs.Lists.{numbers_in}
use Rattle.oxt_told.specs.Source.{all_told}
use Rattle.oxt_told.specs.Uses.{uses_told}
use Rattle.oxt_told.proofs.uses.tell_uses.Given as goal

abbrev pub invariant-loop-node : goal.invariant-loop-node
invariant-loop-node l = all_told l.initial.told (uses_told l.group (numbers_in l.uses)) ≡ all_told l.told (uses_told l.group (numbers_in (drop l.node-index l.uses)))
