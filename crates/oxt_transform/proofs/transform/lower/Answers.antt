-- The facts of the steps, put together.
use Rattle.std.proofs.Common.{◌∙◌, None, subst}
use Rattle.oxt_options.specs.Facts.{is_in}
use Rattle.oxt_options.specs.Options.{transform_view}
use Rattle.oxt_told.specs.Source.{asked_of}
use Rattle.oxt_transform.proofs.Steps.{failed, fault_hinders, passed, told_same}
use Rattle.oxt_transform.proofs.transform.lower.Goals as goal
use Rattle.oxt_certificate.specs.Expected.{expected_beside}
use Rattle.oxt_transform.specs.Faults.{refusal_in}
use Rattle.oxt_transform.specs.Refusals.{IsFailure, Judges}
use Rattle.oxt_tree.specs.View.{node_doc}

pub returns-in-Ok-rewrite_and_test-clause-passes : goal.returns-in-Ok-rewrite_and_test-clause-passes
returns-in-Ok-rewrite_and_test-clause-passes c =
    let source = node_doc c.args.program.now.root in
    let output = node_doc c.rewrite_and_test.new.program.root in
    let staying = c.in-Ok-staying_wrappers.ensures (is_in c.in-Ok.checked.tables.plan.kept) (c.as_slice.ensures.value ∙ c.in-Ok-diagnostics_of.ensures) in
    passed (transform_view c.args.options.now) source output c.in-Ok.checked.tables.plan c.in-Ok.checked.tables.scoping c.in-Ok.checked.names c.in-Ok.ensures.table c.in-Ok.ensures.groups c.in-Ok.ensures.taken c.in-Ok.ensures.plan c.in-Ok.ensures.accepted
    (subst (λ ns. Judges (expected_beside ns c.in-Ok.checked.tables.scoping c.in-Ok.checked.names.groups c.in-Ok.checked.names.taken (asked_of c.in-Ok.checked.tables.plan) (transform_view c.args.options.now) source) output None) staying c.in-Ok-rewrite_and_test.ensures.judged)

pub returns-in-Ok-rewrite_and_test-clause-told : goal.returns-in-Ok-rewrite_and_test-clause-told
returns-in-Ok-rewrite_and_test-clause-told c =
    c.in-Ok-diagnostics_of.ensures
    ∙ told_same (transform_view c.args.options.now) (node_doc c.args.program.now.root) c.in-Ok.checked.tables.plan c.in-Ok.checked.tables.scoping c.in-Ok.ensures.table c.in-Ok.ensures.plan

pub returns-in-Err-rewrite_and_test-clause-refused : goal.returns-in-Err-rewrite_and_test-clause-refused
returns-in-Err-rewrite_and_test-clause-refused c =
    let source = node_doc c.args.program.now.root in
    let output = node_doc c.rewrite_and_test.new.program.root in
    let staying = c.in-Ok-staying_wrappers.ensures (is_in c.in-Ok.checked.tables.plan.kept) (c.as_slice.ensures.value ∙ c.in-Ok-diagnostics_of.ensures) in
    failed (transform_view c.args.options.now) source output c.in-Ok.checked.tables.plan c.in-Ok.checked.tables.scoping c.in-Ok.checked.names
    c.in-Ok.ensures.table c.in-Ok.ensures.groups c.in-Ok.ensures.taken c.in-Ok.ensures.plan c.in-Ok.ensures.accepted (refusal_in c.in-Err-rewrite_and_test.fault)
    (subst (λ ns. IsFailure (refusal_in c.in-Err-rewrite_and_test.fault) (expected_beside ns c.in-Ok.checked.tables.scoping c.in-Ok.checked.names.groups c.in-Ok.checked.names.taken (asked_of c.in-Ok.checked.tables.plan) (transform_view c.args.options.now) source) output) staying c.in-Err-rewrite_and_test.ensures.failed)

pub returns-in-Err-clause-refused : goal.returns-in-Err-clause-refused
returns-in-Err-clause-refused c = fault_hinders (refusal_in c.in-Err.fault) (transform_view c.args.options.now) (node_doc c.args.program.now.root) c.in-Err.ensures.refused
