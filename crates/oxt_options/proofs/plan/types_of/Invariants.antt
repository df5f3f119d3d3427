-- What was put, with the types that are left, says what all of them say.
use Rattle.std.proofs.Common.{drop}
use Rattle.oxt_options.proofs.Tables.{IsPut}
use Rattle.oxt_options.proofs.plan.types_of.Given as goal

abbrev pub invariant-loop-noted : goal.invariant-loop-noted
invariant-loop-noted l = IsPut l.types l.table.entries (drop l.noted-index l.types)
