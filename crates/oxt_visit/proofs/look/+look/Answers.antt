use Rattle.std.proofs.Common.{◌≡◌, ◌∙◌, ap, arith, length, min}
use Rattle.oxt_tree.specs.View.{docs_in}
use Rattle.oxt_visit.proofs.Looked.{fields_over}
use Rattle.oxt_visit.specs.Calls.{noted}
use Rattle.oxt_visit.specs.Hooks.{expressions}
use Rattle.oxt_visit.specs.Visits.{visits_fields}
use Rattle.oxt_visit.proofs.look.+look.Goals as goal

pub look_at_fields-returns : goal.look_at_fields-returns
look_at_fields-returns g t c =
    let last : c.loop-i.i ≡ min (length c.rows-rows.result.now) (length c.args.parts.now) = omega arith in
    fields_over g.V.VisitJs.note expressions (g.V.VisitJs.notes c.loop-i.visitor) c.rows-rows.result.now c.args.parts.now c.loop-i.i last
    ∙ (c.loop-i.invariant.left
    ∙ ap (λ fs. noted g.V.VisitJs.note (g.V.VisitJs.notes c.args.visitor.now) (visits_fields expressions (docs_in c.args.parts.now) fs)) c.rows-rows.ensures)
