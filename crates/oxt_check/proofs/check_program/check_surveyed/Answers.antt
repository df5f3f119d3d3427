-- What metadata writes follows from the program.
use Rattle.std.proofs.Common.{◌≡◌, None, OnOk, IfOk, IfErr, subst}
use Rattle.oxt_check.specs.Faults.{IsThe, facts_with, fault_by, refusal_in}
use Rattle.oxt_options.specs.Facts.{Answers}
use Rattle.oxt_options.specs.Options.{transform_view}
use Rattle.oxt_tree.specs.View.{node_doc}
use Rattle.oxt_check.proofs.check_program.check_surveyed.Goals as goal

pub returns-clause-plan : goal.returns-clause-plan
returns-clause-plan c =
    subst (λ m. IfOk c.check_written.result (λ plan. Answers plan (facts_with m c.args.scoping.now (node_doc c.args.survey.now.program.now) (transform_view c.args.options.now)))) c.in_ok-metadata.ensures c.check_written.ensures.plan

pub returns-clause-accepted : goal.returns-clause-accepted
returns-clause-accepted c =
    subst (λ m. OnOk c.check_written.result (fault_by (facts_with m c.args.scoping.now (node_doc c.args.survey.now.program.now) (transform_view c.args.options.now)) c.args.scoping.now (node_doc c.args.survey.now.program.now) (transform_view c.args.options.now) ≡ None)) c.in_ok-metadata.ensures c.check_written.ensures.accepted

pub returns-clause-refused : goal.returns-clause-refused
returns-clause-refused c =
    subst (λ m. IfErr c.check_written.result (λ r. IsThe (refusal_in r) (fault_by (facts_with m c.args.scoping.now (node_doc c.args.survey.now.program.now) (transform_view c.args.options.now)) c.args.scoping.now (node_doc c.args.survey.now.program.now) (transform_view c.args.options.now)))) c.in_ok-metadata.ensures c.check_written.ensures.refused
