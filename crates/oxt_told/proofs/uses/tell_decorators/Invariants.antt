-- What is told so far, and then of the decorators that are left.
use Rattle.std.proofs.Common.{◌≡◌, drop}
use Rattle.oxt_told.specs.Source.{all_told}
use Rattle.oxt_told.specs.Uses.{decorators_told}
use Rattle.oxt_tree.specs.View.{docs_in}
use Rattle.oxt_told.proofs.uses.tell_decorators.Given as goal

abbrev pub invariant-loop-decorator : goal.invariant-loop-decorator
invariant-loop-decorator l = all_told l.initial.told (decorators_told l.place (docs_in l.decorators)) ≡ all_told l.told (decorators_told l.place (docs_in (drop l.decorator-index l.decorators)))
