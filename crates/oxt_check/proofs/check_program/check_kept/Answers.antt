-- What the plan says is what its lists say, and the list of what is kept is that which came in.
use Rattle.std.proofs.Common.{◌≡◌, ◌∙◌, ap, None, OnOk, IfErr, subst}
use Rattle.oxt_check.proofs.Checked.{as_planned, fault_of_plan, with_known}
use Rattle.oxt_check.specs.Faults.{IsThe, facts_by, listed_by, refusal_in}
use Rattle.oxt_options.specs.Facts.{Answers}
use Rattle.oxt_options.specs.Lists.{numbers_in}
use Rattle.oxt_options.specs.Options.{transform_view}
use Rattle.oxt_tree.specs.View.{node_doc}
use Rattle.oxt_check.proofs.check_program.check_kept.Goals as goal

pub returns-clause-plan : goal.returns-clause-plan
returns-clause-plan c =
    let same : c.in_ok-list.list ≡ c.args.kept = c.in_ok-list.ensures ∙ ap numbers_in c.as_slice.ensures.value ∙ c.into_nodes-nodes.ensures in
    let answers : Answers c.in_ok-plan.plan (facts_by c.args.metadata.now c.in_ok-list.list c.args.scoping.now (node_doc c.args.survey.now.program.now) (transform_view c.args.options.now)) = with_known c.in_ok-listed.listed (listed_by c.args.metadata.now c.in_ok-list.list c.args.scoping.now (node_doc c.args.survey.now.program.now) (transform_view c.args.options.now)) c.in_ok-plan.plan c.args.scoping.now (node_doc c.args.survey.now.program.now) (transform_view c.args.options.now) c.in_ok-listed.ensures c.in_ok-plan.ensures.others c.in_ok-plan.ensures.aliases in
    as_planned c.check_planned.result c.in_ok-plan.plan (facts_by c.args.metadata.now c.args.kept c.args.scoping.now (node_doc c.args.survey.now.program.now) (transform_view c.args.options.now))
    (subst (λ ks. Answers c.in_ok-plan.plan (facts_by c.args.metadata.now ks c.args.scoping.now (node_doc c.args.survey.now.program.now) (transform_view c.args.options.now))) same answers)
    c.check_planned.ensures.plan

pub returns-clause-accepted : goal.returns-clause-accepted
returns-clause-accepted c =
    let same : c.in_ok-list.list ≡ c.args.kept = c.in_ok-list.ensures ∙ ap numbers_in c.as_slice.ensures.value ∙ c.into_nodes-nodes.ensures in
    let answers : Answers c.in_ok-plan.plan (facts_by c.args.metadata.now c.in_ok-list.list c.args.scoping.now (node_doc c.args.survey.now.program.now) (transform_view c.args.options.now)) = with_known c.in_ok-listed.listed (listed_by c.args.metadata.now c.in_ok-list.list c.args.scoping.now (node_doc c.args.survey.now.program.now) (transform_view c.args.options.now)) c.in_ok-plan.plan c.args.scoping.now (node_doc c.args.survey.now.program.now) (transform_view c.args.options.now) c.in_ok-listed.ensures c.in_ok-plan.ensures.others c.in_ok-plan.ensures.aliases in
    subst (λ f. OnOk c.check_planned.result (f ≡ None))
    (fault_of_plan c.in_ok-plan.plan c.args.metadata.now c.in_ok-list.list c.args.kept c.args.scoping.now (node_doc c.args.survey.now.program.now) (transform_view c.args.options.now) answers same)
    c.check_planned.ensures.accepted

pub returns-clause-refused : goal.returns-clause-refused
returns-clause-refused c =
    let same : c.in_ok-list.list ≡ c.args.kept = c.in_ok-list.ensures ∙ ap numbers_in c.as_slice.ensures.value ∙ c.into_nodes-nodes.ensures in
    let answers : Answers c.in_ok-plan.plan (facts_by c.args.metadata.now c.in_ok-list.list c.args.scoping.now (node_doc c.args.survey.now.program.now) (transform_view c.args.options.now)) = with_known c.in_ok-listed.listed (listed_by c.args.metadata.now c.in_ok-list.list c.args.scoping.now (node_doc c.args.survey.now.program.now) (transform_view c.args.options.now)) c.in_ok-plan.plan c.args.scoping.now (node_doc c.args.survey.now.program.now) (transform_view c.args.options.now) c.in_ok-listed.ensures c.in_ok-plan.ensures.others c.in_ok-plan.ensures.aliases in
    subst (λ f. IfErr c.check_planned.result (λ r. IsThe (refusal_in r) f))
    (fault_of_plan c.in_ok-plan.plan c.args.metadata.now c.in_ok-list.list c.args.kept c.args.scoping.now (node_doc c.args.survey.now.program.now) (transform_view c.args.options.now) answers same)
    c.check_planned.ensures.refused
