-- The constants of the members so far are in the table.
use Rattle.oxt_inline.proofs.Entries.{SoFar}
use Rattle.oxt_inline.proofs.constants.Constants.with.Given as goal

abbrev pub invariant-loop-member : goal.invariant-loop-member
invariant-loop-member l = SoFar l.members l.member-index l.table.entries
