-- The members from the index on have been put.
use Rattle.std.proofs.Common.{◌≤◌, length}
use Rattle.oxt_scopes.proofs.Tables.{MembersFrom}
use Rattle.oxt_scopes.proofs.scope.add_members.Given as goal

abbrev pub decreases-loop-i : goal.decreases-loop-i
decreases-loop-i l = l.i

abbrev pub invariant-loop-i : goal.invariant-loop-i
invariant-loop-i l = record {
  within : l.i ≤ length l.members;
  so_far : MembersFrom l.i l.members l.enum_name l.number.0 l.initial.blocks.entries l.blocks.entries;
}
