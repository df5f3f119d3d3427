use Rattle.oxt_grammar.specs.declared.category.Category.TheVariants as category
use Rattle.oxt_tree.specs.View.{node_doc}
use Rattle.oxt_visit.proofs.Called.{on_ok}
use Rattle.oxt_visit.proofs.Watched.{watched}
use Rattle.oxt_visit.specs.Hooks.{expressions_and_scopes}
use Rattle.oxt_visit.proofs.walk.visit_js_mut.Goals as goal

pub returns-clause-watched : goal.returns-clause-watched
returns-clause-watched g c =
    on_ok c.visit_node.result (λ called. watched expressions_and_scopes g.V.VisitJsMut.read g.V.VisitJsMut.trace (g.V.VisitJsMut.log c.args.visitor.now) (g.V.VisitJsMut.log c.visit_node.new.visitor) category.Expression (node_doc c.args.root.now) (node_doc c.visit_node.new.node) called) c.visit_node.ensures.called
