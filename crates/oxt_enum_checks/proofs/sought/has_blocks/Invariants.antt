-- No symbol so far is.
use Rattle.oxt_enum_checks.specs.Sought.{has_block}
use Rattle.oxt_enum_checks.proofs.Seeks.{IsNone}
use Rattle.oxt_enum_checks.proofs.sought.has_blocks.Given as goal

abbrev pub invariant-loop-number : goal.invariant-loop-number
invariant-loop-number l = IsNone has_block l.scoping.symbols l.number
