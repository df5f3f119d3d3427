use Rattle.std.proofs.Common.{◌≡◌, refl, ◌∙◌, sym, ap, subst₂, true, ◌++◌, arith, length, min}
use Rattle.std.proofs.Math.ListN.{length-set}
use Rattle.oxt_grammar.specs.Rows.{row_of}
use Rattle.oxt_visit.proofs.Called.{on_ok}
use Rattle.oxt_visit.proofs.Going.{elements_end, elements_on, fields_end, fields_on}
use Rattle.oxt_visit.proofs.Steps.{visit_called, field_called, field_passed, fields_called, list_called, leaf_called, leaf_part, is_leaf, other_called, scope_called}
use Rattle.oxt_visit.specs.Calls.{HasCalled, visited}
use Rattle.oxt_visit.specs.Place.{place_of}
use Rattle.oxt_visit.specs.Walks.{Keeps, WalksInside}
use Rattle.oxt_visit.proofs.Rests.{behind_weighs, readings_set}
use Rattle.oxt_tree.specs.View.{docs_in, node_doc, part_doc}
use Rattle.oxt_visit.specs.Weight.{weights}
use Rattle.oxt_visit.proofs.walk.+visit.Goals as goal
use Rattle.oxt_visit.proofs.walk.+visit.Goals.{visit_node-then-is_visited+in_ok-visit, visit_node-else-is_visited}

pub visit_elements-loop-i-preserved : goal.visit_elements-loop-i-preserved
visit_elements-loop-i-preserved g t c =
    let ps = c.loop-i.parts.items in
    record {
      kept = readings_set g.V.Walker.read ps c.loop-i.i c.index_mut.result.now c.visit_part.new.part (omega arith) c.index_mut.ensures.value c.in_ok-visit_part.ensures.kept ∙ c.loop-i.invariant.kept;
      steady = c.in_ok-visit_part.ensures.steady ∙ c.loop-i.invariant.steady;
      len = simp length-set c.loop-i.invariant.len;
      left = behind_weighs (g.V.Walker.spare c.args.visitor.now) ps c.loop-i.i (weights (g.V.Walker.spare c.args.visitor.now) (docs_in c.args.parts.now.items)) c.index_mut.result.now c.visit_part.new.part (omega arith) c.index_mut.ensures.value c.loop-i.invariant.left;
      called = elements_on g.V.Walker.trace g.V.Walker.hooks (Keeps g.V.Walker.read) (g.V.Walker.log c.args.visitor.now) (g.V.Walker.log c.loop-i.visitor) (g.V.Walker.log c.visit_part.new.visitor) c.args.place (docs_in c.args.parts.now.items) ps c.loop-i.i c.index_mut.result.now c.visit_part.new.part (omega arith) c.index_mut.ensures.value c.in_ok-visit_part.ensures.called c.loop-i.invariant.called;
    }

pub visit_fields-loop-i-preserved : goal.visit_fields-loop-i-preserved
visit_fields-loop-i-preserved g t c =
    let ps = c.loop-i.parts.items in
    record {
      kept = readings_set g.V.Walker.read ps c.loop-i.i c.index_mut.result.now c.visit_field.new.part (omega arith) c.index_mut.ensures.value c.in_ok-visit_field.ensures.kept ∙ c.loop-i.invariant.kept;
      steady = c.in_ok-visit_field.ensures.steady ∙ c.loop-i.invariant.steady;
      len = simp length-set c.loop-i.invariant.len;
      left = behind_weighs (g.V.Walker.spare c.args.visitor.now) ps c.loop-i.i (weights (g.V.Walker.spare c.args.visitor.now) (docs_in c.args.parts.now.items)) c.index_mut.result.now c.visit_field.new.part (omega arith) c.index_mut.ensures.value c.loop-i.invariant.left;
      called = fields_on g.V.Walker.trace g.V.Walker.hooks (Keeps g.V.Walker.read) (g.V.Walker.log c.args.visitor.now) (g.V.Walker.log c.loop-i.visitor) (g.V.Walker.log c.visit_field.new.visitor) c.rows-rows.result.now (docs_in c.args.parts.now.items) ps c.loop-i.i _ c.index_mut.result.now c.visit_field.new.part (omega arith) (omega arith) c.index_mut.ensures.value c.in_ok-visit_field.ensures.called c.loop-i.invariant.called;
    }

pub visit_elements-returns-clause-called : goal.visit_elements-returns-clause-called
visit_elements-returns-clause-called g t c =
    list_called g.V.Walker.trace g.V.Walker.hooks (Keeps g.V.Walker.read) (g.V.Walker.log c.args.visitor.now) (g.V.Walker.log c.loop-i.visitor) c.args.place (docs_in c.args.parts.now.items) (docs_in c.loop-i.parts.items)
    (elements_end g.V.Walker.trace g.V.Walker.hooks (Keeps g.V.Walker.read) (g.V.Walker.log c.args.visitor.now) (g.V.Walker.log c.loop-i.visitor) c.args.place (docs_in c.args.parts.now.items) c.loop-i.parts.items c.loop-i.i (omega arith) c.loop-i.invariant.called)

pub visit_fields-returns-clause-called : goal.visit_fields-returns-clause-called
visit_fields-returns-clause-called g t c =
    let last : c.loop-i.i ≡ min (length c.rows-rows.result.now) (length c.loop-i.parts.items) = omega arith in
    fields_end g.V.Walker.trace g.V.Walker.hooks (Keeps g.V.Walker.read) (g.V.Walker.log c.args.visitor.now) (g.V.Walker.log c.loop-i.visitor) (row_of c.args.kind) c.rows-rows.result.now (docs_in c.args.parts.now.items) c.loop-i.parts.items c.loop-i.i c.rows-rows.ensures last c.loop-i.invariant.called

pub visit_field-returns-in-Some-clause-called : goal.visit_field-returns-in-Some-clause-called
visit_field-returns-in-Some-clause-called g t c =
    on_ok c.visit_part.result (λ called. field_called g.V.Walker.trace g.V.Walker.hooks (Keeps g.V.Walker.read) (g.V.Walker.log c.args.visitor.now) (g.V.Walker.log c.visit_part.new.visitor) (place_of c.args.holds) c.in-Some.place (part_doc c.args.part.now) (part_doc c.visit_part.new.part) (sym c.in-Some.is ∙ c.place_of.ensures) called) c.visit_part.ensures.called

pub visit_field-returns-in-None-clause-called : goal.visit_field-returns-in-None-clause-called
visit_field-returns-in-None-clause-called g t c =
    field_passed g.V.Walker.trace g.V.Walker.hooks (Keeps g.V.Walker.read) (g.V.Walker.log c.args.visitor.now) (place_of c.args.holds) (part_doc c.args.part.now) (sym c.in-None.is ∙ c.place_of.ensures)

pub visit_inside-returns-in_ok-visit_fields-clause-called : goal.visit_inside-returns-in_ok-visit_fields-clause-called
visit_inside-returns-in_ok-visit_fields-clause-called g t c =
    let n = c.args.node.now in
    let due = sym c.is_entered.ensures ∙ c.if-is_entered.true in
    scope_called g.V.Walker.trace g.V.Walker.hooks (Keeps g.V.Walker.read) (g.V.Walker.log c.args.visitor.now) (g.V.Walker.log c.enter.new.self) (g.V.Walker.log c.visit_fields.new.visitor) (g.V.Walker.log c.leave.new.self) n.kind n.id.0 n.span.start n.span.end (docs_in n.parts.items) (docs_in c.visit_fields.new.parts.items) due (c.in_ok-enter.ensures.logged due) c.in_ok-visit_fields.ensures.called (c.leave.ensures.logged due)

pub visit_inside-returns-else-is_entered-clause-called : goal.visit_inside-returns-else-is_entered-clause-called
visit_inside-returns-else-is_entered-clause-called g t c =
    let n = c.args.node.now in
    let step = c.visit_fields-else-is_entered in
    on_ok step.result (λ called. fields_called g.V.Walker.trace g.V.Walker.hooks (Keeps g.V.Walker.read) (g.V.Walker.log c.args.visitor.now) (g.V.Walker.log step.new.visitor) n.kind n.id.0 n.span.start n.span.end (docs_in n.parts.items) (docs_in step.new.parts.items) (sym c.is_entered.ensures ∙ c.if-is_entered.false) called) step.ensures.called

pub visit_node-returns-clause-called : goal.visit_node-returns-clause-called
visit_node-returns-clause-called g t c =
    let log = g.V.Walker.log in
    let step = c.if-is_visited in
    let old = node_doc c.args.node.now in
    elim step.branch [
      | visit_node-then-is_visited+in_ok-visit w ↦
          on_ok c.visit_inside.result (λ called. visit_called g.V.Walker.trace g.V.Walker.hooks (Keeps g.V.Walker.read) (log c.args.visitor.now) (log step.visitor) (log c.visit_inside.new.visitor) c.args.place old (node_doc step.node) (node_doc c.visit_inside.new.node)
          (sym c.is_visited.ensures ∙ w.if-is_visited.true)
          (ap (λ n. g.V.Walker.read (node_doc n)) w.node-is ∙ w.in_ok-visit.ensures.kept)
          (ap log w.visitor-is ∙ (w.in_ok-visit.ensures.logged ∙ ap (λ n. log c.args.visitor.now ++ g.V.Walker.trace (visited old (node_doc n))) (sym w.node-is)))
          called) c.visit_inside.ensures.called
      | visit_node-else-is_visited w ↦
          on_ok c.visit_inside.result (λ called. other_called g.V.Walker.trace g.V.Walker.hooks (Keeps g.V.Walker.read) (log c.args.visitor.now) (log c.visit_inside.new.visitor) c.args.place old (node_doc c.visit_inside.new.node)
          (sym c.is_visited.ensures ∙ w.if-is_visited.false)
          (subst₂ (λ v n. HasCalled g.V.Walker.trace (log v) (log c.visit_inside.new.visitor) (λ cs. WalksInside g.V.Walker.hooks (Keeps g.V.Walker.read) (node_doc n) cs (node_doc c.visit_inside.new.node))) w.visitor-is w.node-is called)) c.visit_inside.ensures.called
    ]

pub visit_part-returns-in_default : goal.visit_part-returns-in_default
visit_part-returns-in_default g t c = let leaf : is_leaf (part_doc c.args.part.now) ≡ true = leaf_part c.args.part.now c.in_default.not-Node c.in_default.not-List in record {
  kept = refl;
  steady = refl;
  called = leaf_called g.V.Walker.trace g.V.Walker.hooks (Keeps g.V.Walker.read) (g.V.Walker.log c.args.visitor.now) c.args.place (part_doc c.args.part.now) leaf;
}
