-- The first nodes are those of the scopes.
use Rattle.std.proofs.Common.{◌≡◌, [], IfOk, subst}
use Rattle.oxt_resolve.specs.Groups.{with_scopes, with_uses}
use Rattle.oxt_scopes.specs.OwnedViews.{owned_views}
use Rattle.oxt_scopes.specs.Views.{opened_views}
use Rattle.oxt_resolve.proofs.groups.groups_by.Goals as goal

pub returns : goal.returns
returns c =
    subst (λ f. IfOk c.groups_with.result (λ groups. groups ≡ with_uses f (owned_views c.args.names.now) (with_scopes f (opened_views c.args.scopes.now) [])))
    c.in_ok-firsts.ensures c.groups_with.ensures
