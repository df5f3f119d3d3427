-- Where none may be misused, none is.
use Rattle.oxt_check.proofs.Absences.{no_misused}
use Rattle.oxt_tree.specs.View.{node_doc}
use Rattle.oxt_check.proofs.enums.misused_in.Goals as goal

pub returns-else-may_misuse : goal.returns-else-may_misuse
returns-else-may_misuse c = no_misused c.args.legacy c.args.scoping.now (node_doc c.args.survey.now.program.now) (c.may_misuse.ensures c.if-may_misuse.false)
