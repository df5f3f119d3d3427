use Rattle.std.proofs.Common.{◌≡◌, ◌∙◌, ap, arith, length, min}
use Rattle.std.proofs.Math.ListN.{length-set}
use Rattle.oxt_traverse.proofs.Logs.{logged_under}
use Rattle.oxt_tree.specs.Doc.{list, node}
use Rattle.oxt_tree.specs.View.{docs_in, node_doc}
use Rattle.oxt_walk.proofs.Closing.{expression_untouched, statements_untouched}
use Rattle.oxt_walk.proofs.Steps.{level_on, list_untouched, node_untouched, on_ok, on_ok_2, on_ok_3, part_untouched, untouched_on, untouched_under, watched_as, watched_inside, watched_on}
use Rattle.oxt_walk.proofs.Visiting.{elements_more, fields_more, fields_none, node_logged, same_list, statements_logged}
use Rattle.oxt_walk.specs.Visited.{of_statements, visits, visits_each}
use Rattle.oxt_walk.specs.Watched.{IsWatched}
use Rattle.oxt_walk.proofs.walk.+walk.Goals as goal

pub walk_elements-loop-i-preserved : goal.walk_elements-loop-i-preserved
walk_elements-loop-i-preserved g t c =
    let w = g.T.Traverse.watches in
    let so : IsWatched w c.args.ctx.now → IsWatched w c.loop-i.ctx = watched_on w _ _ _ _ c.loop-i.invariant.untouched in
    record {
      level = level_on _ _ _ c.loop-i.invariant.level c.in_ok-walk_element.ensures.level;
      untouched = untouched_on _ _ _ _ _ _ _ c.loop-i.invariant.untouched (part_untouched list c.loop-i.parts.items c.loop-i.i c.index_mut.result.now c.walk_element.new.part _ _ (omega arith) c.index_mut.ensures.value (untouched_under _ _ _ _ so c.in_ok-walk_element.ensures.untouched));
      len = simp length-set c.loop-i.invariant.len;
      logged = elements_more _ _ _ _ _ _ c.loop-i.parts.items c.loop-i.i c.index_mut.result.now c.walk_element.new.part c.args.place c.args.levels (omega arith) c.index_mut.ensures.value (logged_under _ _ _ _ so c.in_ok-walk_element.ensures.logged) c.loop-i.invariant.logged;
    }

pub walk_fields-loop-i-preserved : goal.walk_fields-loop-i-preserved
walk_fields-loop-i-preserved g t c =
    let w = g.T.Traverse.watches in
    let so : IsWatched w c.args.ctx.now → IsWatched w c.loop-i.ctx = watched_on w _ _ _ _ c.loop-i.invariant.untouched in
    let n = c.loop-i.node in
    record {
      level = level_on _ _ _ c.loop-i.invariant.level c.in_ok-walk_field.ensures.level;
      untouched = untouched_on _ _ _ _ _ _ _ c.loop-i.invariant.untouched (part_untouched (node n.kind n.id.0 n.span.start n.span.end) n.parts.items c.loop-i.i c.index_mut.result.now c.walk_field.new.part _ _ (omega arith) c.index_mut.ensures.value (untouched_under _ _ _ _ so c.in_ok-walk_field.ensures.untouched));
      len = simp length-set c.loop-i.invariant.len;
      logged = fields_more _ _ _ _ _ _ c.rows-rows.result.now n.parts.items c.loop-i.i _ c.index_mut.result.now c.walk_field.new.part c.args.levels (omega arith) (omega arith) c.index_mut.ensures.value (logged_under _ _ _ _ so c.in_ok-walk_field.ensures.logged) c.loop-i.invariant.logged;
    }

pub walk_node-returns-clause-untouched : goal.walk_node-returns-clause-untouched
walk_node-returns-clause-untouched g t c =
    on_ok c.leave_node.result (λ left. node_untouched g.T.Traverse.watches _ _ _ _ _ _ _ _ _ _ c.in_ok-enter_node.ensures.untouched (ap (λ x. x.injector) c.go_into.ensures.rest) (ap (λ x. x.declarations) c.go_into.ensures.rest) c.in_ok-walk_fields.ensures.untouched (ap (λ x. x.injector) c.go_out.ensures.left) (ap (λ x. x.declarations) c.go_out.ensures.left) left) c.leave_node.ensures.untouched

pub walk_opened-returns-clause-untouched : goal.walk_opened-returns-clause-untouched
walk_opened-returns-clause-untouched g t c =
    on_ok c.exit_statements.result (λ ran. list_untouched g.T.Traverse.watches _ _ _ _ _ _ _ _ c.in_ok-enter_statements.ensures.untouched c.in_ok-walk_elements.ensures.untouched ran.untouched) c.exit_statements.ensures

pub walk_statements-returns-clause-untouched : goal.walk_statements-returns-clause-untouched
walk_statements-returns-clause-untouched g t c =
    on_ok_3 c.close_statements.result (λ closed waited popped. statements_untouched g.T.Traverse.watches c.args.is_program_body _ _ _ _ _ _ c.walk_opened.new.statements.items c.close_statements.new.statements.items c.open_list.ensures.injector c.in_ok-open_list.ensures.opened c.in_ok-walk_opened.ensures.untouched closed waited popped) c.close_statements.ensures.closed c.close_statements.ensures.waiting c.close_statements.ensures.popped

pub walk_expression_body-returns-clause-untouched : goal.walk_expression_body-returns-clause-untouched
walk_expression_body-returns-clause-untouched g t c =
    on_ok_2 c.close_expression.result (λ closed popped. expression_untouched g.T.Traverse.watches _ _ _ _ _ _ _ _ c.open_list.ensures.injector c.in_ok-open_list.ensures.opened c.in_ok-walk_node.ensures.untouched closed c.close_expression.ensures.injector popped) c.close_expression.ensures.closed c.close_expression.ensures.popped

pub walk_expression_body-returns-clause-logged : goal.walk_expression_body-returns-clause-logged
walk_expression_body-returns-clause-logged g t c =
    let so : IsWatched g.T.Traverse.watches c.args.ctx.now → IsWatched g.T.Traverse.watches c.open_list.new.ctx = watched_as _ _ _ c.open_list.ensures.injector in
    on_ok c.close_expression.result (λ closed. logged_under g.T.Traverse.trace (g.T.Traverse.log c.args.pass.now) (g.T.Traverse.log c.walk_node.new.pass) (visits (node_doc c.args.node.now) c.args.place c.args.levels) so c.in_ok-walk_node.ensures.logged) c.close_expression.ensures.closed

pub walk_fields-returns-clause-logged : goal.walk_fields-returns-clause-logged
walk_fields-returns-clause-logged g t c =
    let last : c.loop-i.i ≡ min (length c.rows-rows.result.now) (length c.loop-i.node.parts.items) = omega arith in
    fields_none (IsWatched g.T.Traverse.watches c.args.ctx.now) g.T.Traverse.trace (g.T.Traverse.log c.args.pass.now) (g.T.Traverse.log c.loop-i.pass) c.args.node.now.kind (docs_in c.args.node.now.parts.items) c.rows-rows.result.now c.loop-i.node.parts.items c.loop-i.i c.args.levels c.rows-rows.ensures last c.loop-i.invariant.logged

pub walk_node-returns-clause-logged : goal.walk_node-returns-clause-logged
walk_node-returns-clause-logged g t c =
    let w = g.T.Traverse.watches in
    let so : IsWatched w c.args.ctx.now → IsWatched w c.go_into.new.ctx = watched_inside w _ _ _ _ _ c.in_ok-enter_node.ensures.untouched (ap (λ x. x.injector) c.go_into.ensures.rest) in
    let entered = c.in_ok-enter_node.ensures.untouched.document in
    let walked = c.in_ok-walk_fields.ensures.untouched.document in
    on_ok c.leave_node.result (λ third. node_logged (IsWatched w c.args.ctx.now) g.T.Traverse.trace (g.T.Traverse.log c.args.pass.now) (g.T.Traverse.log c.enter_node.new.pass) (g.T.Traverse.log c.walk_fields.new.pass) (g.T.Traverse.log c.leave_node.new.pass) c.args.place c.args.levels (node_doc c.args.node.now) (node_doc c.enter_node.new.node) (node_doc c.walk_fields.new.node) c.if-levels-eq0.false (λ s. entered s.watching) (λ s. walked (so s) ∙ entered s.watching) (logged_under _ _ _ _ (λ s. s.watching) c.in_ok-enter_node.ensures.logged) (logged_under _ _ _ _ so c.in_ok-walk_fields.ensures.logged) (logged_under _ _ _ _ (λ s. s.watching) third)) c.leave_node.ensures.logged

pub walk_opened-returns-clause-logged : goal.walk_opened-returns-clause-logged
walk_opened-returns-clause-logged g t c =
    let w = g.T.Traverse.watches in
    let P = IsWatched w c.args.ctx.now in
    let so : P → IsWatched w c.enter_statements.new.ctx = watched_on w _ _ _ _ (untouched_under _ _ _ _ (λ v. v.watching) c.in_ok-enter_statements.ensures.untouched) in
    let first = docs_in c.args.statements.now.items in
    let entered_docs = docs_in c.enter_statements.new.statements.items in
    let walked = docs_in c.walk_elements.new.parts.items in
    let entered : P → list entered_docs ≡ list first = λ s. c.in_ok-enter_statements.ensures.untouched.document s.watching in
    on_ok c.exit_statements.result (λ ran. statements_logged P g.T.Traverse.trace (g.T.Traverse.log c.args.pass.now) (g.T.Traverse.log c.enter_statements.new.self) (g.T.Traverse.log c.walk_elements.new.pass) (g.T.Traverse.log c.exit_statements.new.self) (λ ds. visits_each ds c.args.place c.args.levels) first entered_docs walked (same_list entered_docs first entered) (same_list walked first (λ s. c.in_ok-walk_elements.ensures.untouched.document (so s) ∙ entered s)) c.in_ok-enter_statements.ensures.logged (logged_under _ _ _ _ so c.in_ok-walk_elements.ensures.logged) ran.logged) c.exit_statements.ensures

pub walk_statements-returns-clause-logged : goal.walk_statements-returns-clause-logged
walk_statements-returns-clause-logged g t c =
    let opened : IsWatched g.T.Traverse.watches c.args.ctx.now → IsWatched g.T.Traverse.watches c.open_list.new.ctx = watched_as _ _ _ c.open_list.ensures.injector in
    let ds = docs_in c.args.statements.now.items in
    on_ok c.close_statements.result (λ closed. logged_under g.T.Traverse.trace (g.T.Traverse.log c.args.pass.now) (g.T.Traverse.log c.walk_opened.new.pass) (of_statements (list ds) (visits_each ds c.args.place c.args.levels)) opened c.in_ok-walk_opened.ensures.logged) c.close_statements.ensures.closed
