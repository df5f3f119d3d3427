-- The blocks from the index on have been put.
use Rattle.std.proofs.Common.{◌≤◌, length}
use Rattle.oxt_scopes.proofs.Tables.{BlocksFrom}
use Rattle.oxt_scopes.proofs.scope.blocks_of.Given as goal

abbrev pub decreases-loop-i : goal.decreases-loop-i
decreases-loop-i l = l.i

abbrev pub invariant-loop-i : goal.invariant-loop-i
invariant-loop-i l = record {
  within : l.i ≤ length l.declarations;
  so_far : BlocksFrom l.i l.declarations l.blocks.entries;
}
