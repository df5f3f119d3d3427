use Rattle.std.proofs.Common.{◌≡◌, true, ap}
use Rattle.oxt_traverse.proofs.Logs.{entered_logged, on_ok}
use Rattle.oxt_ctx.specs.Visits.{visits_by}
use Rattle.oxt_tree.specs.View.{node_doc}
use Rattle.oxt_traverse.proofs.dispatch.enter_node.Goals as goal

pub returns-clause-logged : goal.returns-clause-logged
returns-clause-logged g c =
    let same = c.in_ok-run_wanted.ensures.untouched.document in
    on_ok c.run_wanted-2.result (λ second. entered_logged (g.T.Traverse.watches ≡ true) g.T.Traverse.trace (g.T.Traverse.log c.args.pass.now) (g.T.Traverse.log c.run_wanted.new.pass) (g.T.Traverse.log c.run_wanted-2.new.pass) c.args.place c.at_place.result.now c.as_kind.result.now (node_doc c.args.node.now) (node_doc c.run_wanted.new.node) same c.at_place.ensures (ap (λ hs. visits_by hs (node_doc c.run_wanted.new.node)) c.as_kind.ensures) c.in_ok-run_wanted.ensures.logged second) c.run_wanted-2.ensures.logged
