-- The marks are those of the tree.
use Rattle.std.proofs.Common.{◌∙◌, ap}
use Rattle.oxt_resolve.specs.Resolved.{all_enums, all_used, declared_by, values_by}
use Rattle.oxt_scopes.specs.OwnedViews.{owned_views}
use Rattle.oxt_scopes.specs.Views.{opened_views}
use Rattle.oxt_tree.specs.View.{node_doc}
use Rattle.oxt_resolve.proofs.resolve.table_of.Goals as goal

pub returns-in-Ok : goal.returns-in-Ok
returns-in-Ok c =
    let d = node_doc c.args.program.now in
    let xs = opened_views c.args.scopes.now in
    let os = owned_views c.args.owners.now in
    c.in-Ok.ensures
    ∙ ap (λ t. all_used os (all_enums (values_by os xs d) xs t)) (c.in_ok-table.ensures ∙ ap (λ ms. declared_by ms c.args.taken xs d) c.in_ok-marks.ensures)
