-- What was surveyed is the program.
use Rattle.std.proofs.Common.{◌≡◌, None, OnOk, IfOk, IfErr, subst}
use Rattle.oxt_check.specs.Faults.{IsFaultOf, facts_of, first_fault, refusal_in}
use Rattle.oxt_options.specs.Facts.{Answers}
use Rattle.oxt_options.specs.Options.{transform_view}
use Rattle.oxt_check.proofs.check_program.check.Goals as goal

pub returns-clause-plan : goal.returns-clause-plan
returns-clause-plan c =
    subst (λ d. IfOk c.check_surveyed.result (λ plan. Answers plan (facts_of c.args.scoping.now d (transform_view c.args.options.now)))) c.in_ok-survey.ensures c.check_surveyed.ensures.plan

pub returns-clause-accepted : goal.returns-clause-accepted
returns-clause-accepted c =
    subst (λ d. OnOk c.check_surveyed.result (first_fault c.args.scoping.now d (transform_view c.args.options.now) ≡ None)) c.in_ok-survey.ensures c.check_surveyed.ensures.accepted

pub returns-clause-refused : goal.returns-clause-refused
returns-clause-refused c =
    subst (λ d. IfErr c.check_surveyed.result (λ f. IsFaultOf (refusal_in f) c.args.scoping.now d (transform_view c.args.options.now))) c.in_ok-survey.ensures c.check_surveyed.ensures.refused
