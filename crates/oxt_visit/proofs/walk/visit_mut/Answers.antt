use Rattle.oxt_grammar.specs.declared.category.Category.TheVariants as category
use Rattle.oxt_tree.specs.View.{node_doc}
use Rattle.oxt_visit.proofs.Called.{on_ok}
use Rattle.oxt_visit.proofs.Watched.{watched}
use Rattle.oxt_visit.specs.Hooks.{used_names}
use Rattle.oxt_visit.proofs.walk.visit_mut.Goals as goal

pub returns-clause-watched : goal.returns-clause-watched
returns-clause-watched g c =
    on_ok c.visit_node.result (λ called. watched used_names g.V.VisitMut.read g.V.VisitMut.trace (g.V.VisitMut.log c.args.visitor.now) (g.V.VisitMut.log c.visit_node.new.visitor) category.ClassBody (node_doc c.args.root.now) (node_doc c.visit_node.new.node) called) c.visit_node.ensures.called
