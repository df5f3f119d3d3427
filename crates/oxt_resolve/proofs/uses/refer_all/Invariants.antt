-- What has been done and what is left come to the whole.
use Rattle.std.proofs.Common.{◌≡◌, drop}
use Rattle.oxt_resolve.specs.Resolved.{all_used}
use Rattle.oxt_scopes.specs.OwnedViews.{owned_views}
use Rattle.oxt_resolve.proofs.uses.refer_all.Given as goal

abbrev pub invariant-loop-owner : goal.invariant-loop-owner
invariant-loop-owner l = all_used (owned_views l.owners) l.initial.table ≡ all_used (owned_views (drop l.owner-index l.owners)) l.table
