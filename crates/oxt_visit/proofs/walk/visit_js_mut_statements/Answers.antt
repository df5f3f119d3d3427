use Rattle.oxt_grammar.specs.declared.category.Category.TheVariants as category
use Rattle.oxt_tree.specs.Doc.{list}
use Rattle.oxt_tree.specs.View.{docs_in}
use Rattle.oxt_visit.proofs.Called.{on_ok}
use Rattle.oxt_visit.proofs.Watched.{watched}
use Rattle.oxt_visit.specs.Hooks.{expressions_and_scopes}
use Rattle.oxt_visit.proofs.walk.visit_js_mut_statements.Goals as goal

pub returns-clause-watched : goal.returns-clause-watched
returns-clause-watched g c =
    on_ok c.visit_elements.result (λ called. watched expressions_and_scopes g.V.VisitJsMut.read g.V.VisitJsMut.trace (g.V.VisitJsMut.log c.args.visitor.now) (g.V.VisitJsMut.log c.visit_elements.new.visitor) category.Statement (list (docs_in c.args.root.now.items)) (list (docs_in c.visit_elements.new.parts.items)) called) c.visit_elements.ensures.called
