-- The names from the index on have been put.
use Rattle.std.proofs.Common.{◌≤◌, length}
use Rattle.oxt_scopes.proofs.Tables.{NamesFrom}
use Rattle.oxt_scopes.proofs.scope.names_of.Given as goal

abbrev pub decreases-loop-i : goal.decreases-loop-i
decreases-loop-i l = l.i

abbrev pub invariant-loop-i : goal.invariant-loop-i
invariant-loop-i l = record {
  within : l.i ≤ length l.declarations;
  so_far : NamesFrom l.i l.declarations l.names.entries;
}
