-- What is told so far, and then of the declarators that are left.
use Rattle.std.proofs.Common.{◌≡◌, drop}
use Rattle.oxt_told.specs.Namespaces.{declarators_told}
use Rattle.oxt_told.specs.Source.{all_told}
use Rattle.oxt_tree.specs.View.{docs_in}
use Rattle.oxt_told.proofs.namespaces.tell_declarators.Given as goal

abbrev pub invariant-loop-declarator : goal.invariant-loop-declarator
invariant-loop-declarator l = all_told l.initial.told (declarators_told l.block (docs_in l.declarators)) ≡ all_told l.told (declarators_told l.block (docs_in (drop l.declarator-index l.declarators)))
