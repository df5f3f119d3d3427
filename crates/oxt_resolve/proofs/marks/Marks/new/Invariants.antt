-- What the table has and the marks that are left come to the whole.
use Rattle.oxt_resolve.proofs.Gatherings.{MarksFrom}
use Rattle.oxt_resolve.proofs.marks.Marks.new.Given as goal

abbrev pub invariant-loop-mark : goal.invariant-loop-mark
invariant-loop-mark l = MarksFrom l.mark-index l.marks l.table
