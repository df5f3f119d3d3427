-- Where no member of an enum occurs, what is misnamed is what is misused, and nothing else is wrong.
use Rattle.std.proofs.Common.{◌∙◌, sym}
use Rattle.oxt_check.proofs.Absences.{no_initializer}
use Rattle.oxt_check.proofs.NoMembers.{misused_alone, none_shadowed}
use Rattle.oxt_tree.specs.View.{node_doc}
use Rattle.oxt_check.proofs.enums.enum_faults.Goals as goal

pub returns-clause-misnamed : goal.returns-clause-misnamed
returns-clause-misnamed c = c.misused_in-misused.ensures ∙ misused_alone c.args.legacy c.args.scoping.now (node_doc c.args.survey.now.program.now) (sym c.has.ensures ∙ c.if-has.false)

pub returns-clause-shadowed : goal.returns-clause-shadowed
returns-clause-shadowed c = none_shadowed c.args.legacy c.args.scoping.now (node_doc c.args.survey.now.program.now) (sym c.has.ensures ∙ c.if-has.false)

pub returns-clause-word : goal.returns-clause-word
returns-clause-word c = no_initializer c.args.legacy c.args.scoping.now (node_doc c.args.survey.now.program.now) (sym c.has.ensures ∙ c.if-has.false)
