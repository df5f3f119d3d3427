-- The table is that of the names from the place on.
use Rattle.std.proofs.Common.{◌≤◌, length, drop}
use Rattle.oxt_certificate.specs.BoundViews.{IsTableOf, made_views}
use Rattle.oxt_certificate.proofs.bound.Bindings.of.Given as goal

abbrev pub decreases-loop-i : goal.decreases-loop-i
decreases-loop-i l = l.i

abbrev pub invariant-loop-i : goal.invariant-loop-i
invariant-loop-i l = record {
  within : l.i ≤ length l.names;
  so_far : IsTableOf (made_views (drop l.i l.names)) l.bindings;
}
