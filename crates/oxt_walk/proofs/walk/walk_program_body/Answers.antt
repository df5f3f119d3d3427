use Rattle.std.proofs.Common.{◌∙◌, ap, arith, codes, sym}
use Rattle.oxt_traverse.proofs.Logs.{logged_as, logged_none}
use Rattle.oxt_tree.specs.Doc.{node}
use Rattle.oxt_walk.proofs.Steps.{on_ok, part_untouched}
use Rattle.oxt_walk.proofs.Visiting.{body_here, body_missing, body_short}
use Rattle.oxt_walk.specs.Visited.{of_body}
use Rattle.oxt_walk.proofs.walk.walk_program_body.Goals as goal

pub returns-then-place-len-clause-untouched : goal.returns-then-place-len-clause-untouched
returns-then-place-len-clause-untouched g c =
    let p = c.args.program.now in
    on_ok c.walk_body.result (λ walked. part_untouched (node p.kind p.id.0 p.span.start p.span.end) p.parts.items c.in-Some.place c.index_mut.result.now c.walk_body.new.part _ _ (omega arith) c.index_mut.ensures.value walked) c.walk_body.ensures.untouched

pub returns-then-place-len-clause-logged : goal.returns-then-place-len-clause-logged
returns-then-place-len-clause-logged g c =
    let same = body_here (codes "body") c.args.program.now.kind c.rows.result.now c.args.program.now.parts.items c.in-Some.place c.index_mut.result.now c.rows.ensures (sym c.in-Some.is ∙ c.place_of.ensures) (omega arith) c.index_mut.ensures.value in
    on_ok c.walk_body.result (λ logged. logged_as _ _ _ _ _ _ (λ w. ap of_body same) logged) c.walk_body.ensures.logged

pub returns-else-place-len-clause-logged : goal.returns-else-place-len-clause-logged
returns-else-place-len-clause-logged g c =
    let same = body_short (codes "body") c.args.program.now.kind c.rows.result.now c.args.program.now.parts.items c.in-Some.place c.rows.ensures (sym c.in-Some.is ∙ c.place_of.ensures) (omega arith) in
    logged_as _ _ _ _ _ _ (λ w. ap of_body same) (logged_none _ g.T.Traverse.trace (g.T.Traverse.log c.args.pass.now))

pub returns-in-None-clause-logged : goal.returns-in-None-clause-logged
returns-in-None-clause-logged g c =
    let same = body_missing (codes "body") c.args.program.now.kind c.rows.result.now c.args.program.now.parts.items c.rows.ensures (sym c.in-None.is ∙ c.place_of.ensures) in
    logged_as _ _ _ _ _ _ (λ w. ap of_body same) (logged_none _ g.T.Traverse.trace (g.T.Traverse.log c.args.pass.now))
