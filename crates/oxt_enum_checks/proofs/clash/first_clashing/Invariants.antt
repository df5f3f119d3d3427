-- No clash of the declarations before the index was found, and what is left decides.
use Rattle.std.proofs.Common.{◌≡◌, drop, false}
use Rattle.oxt_enum_checks.specs.Clash.{clash_from}
use Rattle.oxt_enum_checks.proofs.clash.first_clashing.Given as goal

abbrev pub invariant-loop-i : goal.invariant-loop-i
invariant-loop-i l = clash_from false l.emitted ≡ clash_from l.after_base (drop l.i l.emitted)
