-- Where no scope declares an enum, nothing is told.
use Rattle.std.proofs.Common.{◌∙◌, sym}
use Rattle.oxt_resolve.proofs.Enumless.{no_enums}
use Rattle.oxt_resolve.specs.Resolved.{values_by}
use Rattle.oxt_scopes.specs.OwnedViews.{owned_views}
use Rattle.oxt_scopes.specs.Views.{opened_views}
use Rattle.oxt_tree.specs.View.{node_doc}
use Rattle.oxt_resolve.proofs.resolve.tell_enums.Goals as goal

pub returns-else-has_enums : goal.returns-else-has_enums
returns-else-has_enums c =
    no_enums (values_by (owned_views c.args.owners.now) (opened_views c.args.scopes.now) (node_doc c.args.program.now)) c.args.scopes.now c.args.table.now
    (sym c.has_enums.ensures ∙ c.if-has_enums.false)
