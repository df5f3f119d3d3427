-- What is kept follows from the names of the program.
use Rattle.std.proofs.Common.{◌≡◌, ◌∙◌, ap, List, ℕ, None, OnOk, IfOk, IfErr, subst}
use Rattle.oxt_check.specs.Faults.{IsThe, facts_by, fault_by, refusal_in}
use Rattle.oxt_metadata.specs.Symbols.{is_in}
use Rattle.oxt_modules.specs.Kept.{kept, kept_beside}
use Rattle.oxt_modules.specs.declared.jsx.JsxUse.{JsxUse}
use Rattle.oxt_options.specs.Facts.{Answers}
use Rattle.oxt_options.specs.Options.{transform_view, typescript_view}
use Rattle.oxt_tree.specs.View.{node_doc}
use Rattle.oxt_check.proofs.check_program.check_written.Goals as goal

pub returns-clause-plan : goal.returns-clause-plan
returns-clause-plan c =
    subst (λ ks. IfOk c.check_kept.result (λ plan. Answers plan (facts_by c.args.metadata.now ks c.args.scoping.now (node_doc c.args.survey.now.program.now) (transform_view c.args.options.now)))) (c.in_ok-kept.ensures ∙ ap (λ (x : JsxUse). kept_beside x c.args.scoping.now (is_in c.named.result.now) (node_doc c.args.survey.now.program.now) (typescript_view c.args.options.now.typescript)) c.in_ok-jsx.ensures ∙ ap (λ (n : List ℕ). kept c.args.scoping.now (is_in n) (node_doc c.args.survey.now.program.now) (typescript_view c.args.options.now.typescript) c.args.options.now.decorator.legacy) c.named.ensures) c.check_kept.ensures.plan

pub returns-clause-accepted : goal.returns-clause-accepted
returns-clause-accepted c =
    subst (λ ks. OnOk c.check_kept.result (fault_by (facts_by c.args.metadata.now ks c.args.scoping.now (node_doc c.args.survey.now.program.now) (transform_view c.args.options.now)) c.args.scoping.now (node_doc c.args.survey.now.program.now) (transform_view c.args.options.now) ≡ None)) (c.in_ok-kept.ensures ∙ ap (λ (x : JsxUse). kept_beside x c.args.scoping.now (is_in c.named.result.now) (node_doc c.args.survey.now.program.now) (typescript_view c.args.options.now.typescript)) c.in_ok-jsx.ensures ∙ ap (λ (n : List ℕ). kept c.args.scoping.now (is_in n) (node_doc c.args.survey.now.program.now) (typescript_view c.args.options.now.typescript) c.args.options.now.decorator.legacy) c.named.ensures) c.check_kept.ensures.accepted

pub returns-clause-refused : goal.returns-clause-refused
returns-clause-refused c =
    subst (λ ks. IfErr c.check_kept.result (λ r. IsThe (refusal_in r) (fault_by (facts_by c.args.metadata.now ks c.args.scoping.now (node_doc c.args.survey.now.program.now) (transform_view c.args.options.now)) c.args.scoping.now (node_doc c.args.survey.now.program.now) (transform_view c.args.options.now)))) (c.in_ok-kept.ensures ∙ ap (λ (x : JsxUse). kept_beside x c.args.scoping.now (is_in c.named.result.now) (node_doc c.args.survey.now.program.now) (typescript_view c.args.options.now.typescript)) c.in_ok-jsx.ensures ∙ ap (λ (n : List ℕ). kept c.args.scoping.now (is_in n) (node_doc c.args.survey.now.program.now) (typescript_view c.args.options.now.typescript) c.args.options.now.decorator.legacy) c.named.ensures) c.check_kept.ensures.refused
