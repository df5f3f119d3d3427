-- The table is that of the program.
use Rattle.std.proofs.Common.{◌≡◌, IfErr, None, OnOk, subst}
use Rattle.oxt_check.specs.Faults.{IsFaultOf, first_fault}
use Rattle.oxt_options.specs.Options.{transform_view}
use Rattle.oxt_transform.specs.Faults.{refusal_in}
use Rattle.oxt_tree.specs.View.{node_doc}
use Rattle.oxt_transform.proofs.transform.resolve_and_check.Goals as goal

pub returns-in-Ok-clause-accepted : goal.returns-in-Ok-clause-accepted
returns-in-Ok-clause-accepted c = subst (λ s. OnOk c.check_resolved.result (first_fault s (node_doc c.args.program.now.root) (transform_view c.args.options.now) ≡ None)) c.in-Ok.ensures.table c.check_resolved.ensures.accepted

pub returns-in-Ok-clause-refused : goal.returns-in-Ok-clause-refused
returns-in-Ok-clause-refused c = subst (λ s. IfErr c.check_resolved.result (λ f. IsFaultOf (refusal_in f) s (node_doc c.args.program.now.root) (transform_view c.args.options.now))) c.in-Ok.ensures.table c.check_resolved.ensures.refused
