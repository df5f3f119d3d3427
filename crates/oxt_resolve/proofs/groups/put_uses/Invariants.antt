-- What is put and what is left come to the whole.
use Rattle.std.proofs.Common.{◌≡◌, drop}
use Rattle.oxt_resolve.specs.Groups.{first_at, with_uses}
use Rattle.oxt_scopes.specs.OwnedViews.{owned_views}
use Rattle.oxt_resolve.proofs.groups.put_uses.Given as goal

abbrev pub invariant-loop-name : goal.invariant-loop-name
invariant-loop-name l = with_uses (first_at l.firsts) (owned_views l.names) l.initial.groups ≡ with_uses (first_at l.firsts) (owned_views (drop l.name-index l.names)) l.groups
