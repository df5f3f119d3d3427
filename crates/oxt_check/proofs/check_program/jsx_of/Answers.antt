-- Where no element and no fragment occurs, the program has none.
use Rattle.std.proofs.Common.{◌∙◌, sym}
use Rattle.oxt_check.proofs.Absences.{no_jsx}
use Rattle.oxt_tree.specs.View.{node_doc}
use Rattle.oxt_check.proofs.check_program.jsx_of.Goals as goal

pub returns-else-has_jsx : goal.returns-else-has_jsx
returns-else-has_jsx c = no_jsx c.args.legacy (node_doc c.args.survey.now.program.now) (sym c.has_jsx.ensures ∙ c.if-has_jsx.false)
