-- No reference so far is.
use Rattle.std.specs.Prelude.{false}
use Rattle.oxt_enum_checks.specs.Misused.{is_misused_use}
use Rattle.oxt_enum_checks.proofs.Written.{IsNone}
use Rattle.oxt_enum_checks.proofs.misused.has_written_member.Given as goal

abbrev pub invariant-loop-number : goal.invariant-loop-number
invariant-loop-number l = IsNone (is_misused_use l.scoping false) l.scoping.references l.number
