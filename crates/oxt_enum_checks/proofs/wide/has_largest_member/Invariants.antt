-- No symbol so far is.
use Rattle.oxt_enum_checks.specs.Wide.{has_largest}
use Rattle.oxt_enum_checks.proofs.Seeks.{IsNone}
use Rattle.oxt_enum_checks.proofs.wide.has_largest_member.Given as goal

abbrev pub invariant-loop-number : goal.invariant-loop-number
invariant-loop-number l = IsNone has_largest l.scoping.symbols l.number
