-- What was read is digits, which write the number.
use Rattle.oxt_json.proofs.Numbers.{IsRead}
use Rattle.oxt_json.proofs.number.plain.Given as goal

abbrev pub invariant-loop-byte : goal.invariant-loop-byte
invariant-loop-byte l = IsRead l.bytes l.byte-index l.number
