use Rattle.std.proofs.Common.{◌∙◌, ap, codes}
use Rattle.oxt_traverse.proofs.Logs.{logged_under}
use Rattle.oxt_tree.specs.Fields.{field_of}
use Rattle.oxt_tree.specs.View.{node_doc}
use Rattle.oxt_walk.proofs.Steps.{node_untouched, on_ok, watched_inside}
use Rattle.oxt_walk.proofs.Visiting.{program_logged}
use Rattle.oxt_walk.specs.Visited.{of_body}
use Rattle.oxt_walk.specs.Watched.{IsWatched}
use Rattle.oxt_walk.proofs.walk.walk_program.Goals as goal

pub returns-clause-untouched : goal.returns-clause-untouched
returns-clause-untouched g c =
    on_ok c.exit_program.result (λ left. node_untouched g.T.Traverse.watches _ _ _ _ _ _ _ _ _ _ c.in_ok-enter_program.ensures.untouched (ap (λ x. x.injector) c.go_into.ensures.rest) (ap (λ x. x.declarations) c.go_into.ensures.rest) c.in_ok-walk_program_body.ensures.untouched (ap (λ x. x.injector) c.go_out.ensures.left) (ap (λ x. x.declarations) c.go_out.ensures.left) left.untouched) c.exit_program.ensures

pub returns-clause-logged : goal.returns-clause-logged
returns-clause-logged g c =
    let w = g.T.Traverse.watches in
    let so : IsWatched w c.args.ctx.now → IsWatched w c.go_into.new.ctx = watched_inside w _ _ _ _ _ c.in_ok-enter_program.ensures.untouched (ap (λ x. x.injector) c.go_into.ensures.rest) in
    let entered = c.in_ok-enter_program.ensures.untouched.document in
    let walked = c.in_ok-walk_program_body.ensures.untouched.document in
    on_ok c.exit_program.result (λ third. program_logged (IsWatched w c.args.ctx.now) g.T.Traverse.trace (g.T.Traverse.log c.args.pass.now) (g.T.Traverse.log c.enter_program.new.self) (g.T.Traverse.log c.walk_program_body.new.pass) (g.T.Traverse.log c.exit_program.new.self) (λ d. of_body (field_of (codes "body") d)) (node_doc c.args.program.now) (node_doc c.enter_program.new.node) (node_doc c.walk_program_body.new.program) (λ s. entered s.watching) (λ s. walked (so s) ∙ entered s.watching) c.in_ok-enter_program.ensures.logged (logged_under _ _ _ _ so c.in_ok-walk_program_body.ensures.logged) third.logged) c.exit_program.ensures
