-- None so far is one, and what is left decides.
use Rattle.std.proofs.Common.{◌≡◌, drop, false}
use Rattle.oxt_enum_checks.specs.LateBase.{late_from}
use Rattle.oxt_enum_checks.proofs.late_base.first_late.Given as goal

abbrev pub invariant-loop-one : goal.invariant-loop-one
invariant-loop-one l = late_from false l.emitted ≡ late_from l.after_namespace (drop l.one-index l.emitted)
