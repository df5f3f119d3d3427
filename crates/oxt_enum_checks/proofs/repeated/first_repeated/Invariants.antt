-- The names of the members so far are kept, and none of these is repeated.
use Rattle.oxt_enum_checks.proofs.Namesakes.{IsNoted}
use Rattle.oxt_enum_checks.proofs.repeated.first_repeated.Given as goal

abbrev pub invariant-loop-member : goal.invariant-loop-member
invariant-loop-member l = IsNoted l.members l.member-index l.names.keys
