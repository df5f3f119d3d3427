-- No symbol so far is.
use Rattle.oxt_enum_checks.specs.Misused.{is_member_symbol}
use Rattle.oxt_enum_checks.proofs.Seeks.{IsNone}
use Rattle.oxt_enum_checks.proofs.misused.has_members.Given as goal

abbrev pub invariant-loop-number : goal.invariant-loop-number
invariant-loop-number l = IsNone is_member_symbol l.scoping.symbols l.number
