-- The rules of fields are those that the plan says.
use Rattle.std.proofs.Common.{◌≡◌, None, subst}
use Rattle.oxt_check.specs.Faults.{IsThe, code_fault, refusal_in}
use Rattle.oxt_options.specs.Facts.{is_in}
use Rattle.oxt_tree.specs.View.{node_doc}
use Rattle.oxt_check.proofs.check_program.check_planned.Goals as goal

pub returns-in-Ok-clause-accepted : goal.returns-in-Ok-clause-accepted
returns-in-Ok-clause-accepted c =
    subst (λ r. code_fault c.args.scoping.now r (is_in c.args.kept.now) (node_doc c.args.survey.now.program.now) ≡ None) c.new-rules.ensures c.in-Ok.ensures.accepted

pub returns-in-Err-clause-refused : goal.returns-in-Err-clause-refused
returns-in-Err-clause-refused c =
    subst (λ r. IsThe (refusal_in c.in-Err.fault) (code_fault c.args.scoping.now r (is_in c.args.kept.now) (node_doc c.args.survey.now.program.now))) c.new-rules.ensures c.in-Err.ensures.refused
