-- What the program looks up of the constants is what the definition says.
use Rattle.std.proofs.Common.{◌≡◌, OnOk, subst}
use Rattle.oxt_enums.specs.Blocks.{blocks_in}
use Rattle.oxt_resolve.proofs.Alike.{same_values}
use Rattle.oxt_resolve.specs.Resolved.{all_enums}
use Rattle.oxt_scopes.specs.OwnedViews.{owned_views}
use Rattle.oxt_scopes.specs.Views.{opened_views}
use Rattle.oxt_tree.specs.View.{node_doc}
use Rattle.oxt_resolve.proofs.resolve.tell_constants.Goals as goal

pub returns : goal.returns
returns c =
    let same = same_values (node_doc c.args.program.now) c.in_ok-enums.enums (opened_views c.args.scopes.now) (owned_views c.args.owners.now) (blocks_in (opened_views c.args.scopes.now)) c.in_ok-enums.ensures in
    subst (λ v. OnOk c.tell_all.result (c.tell_all.new.table ≡ all_enums v (opened_views c.args.scopes.now) c.args.table.now)) same c.tell_all.ensures
