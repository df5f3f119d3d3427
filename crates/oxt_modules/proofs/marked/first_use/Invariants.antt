-- None of the references before the place is a value use.
use Rattle.std.proofs.Common.{◌≤◌}
use Rattle.oxt_modules.specs.Marked.{first_use, is_use}
use Rattle.oxt_modules.proofs.marked.first_use.Given as goal

abbrev pub invariant-loop-place : goal.invariant-loop-place
invariant-loop-place l = l.place ≤ first_use (is_use l.scoping l.marked) l.references
