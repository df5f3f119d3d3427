-- The owners of the names from the index on have been put.
use Rattle.std.proofs.Common.{◌≤◌, length}
use Rattle.oxt_enums.proofs.Backwards.{OwnersFrom}
use Rattle.oxt_enums.proofs.owners.Owners.new.Given as goal

abbrev pub decreases-loop-i : goal.decreases-loop-i
decreases-loop-i l = l.i

abbrev pub invariant-loop-i : goal.invariant-loop-i
invariant-loop-i l = record {
  within : l.i ≤ length l.names;
  so_far : OwnersFrom l.i l.names l.owners.entries;
}
