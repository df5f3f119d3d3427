use Rattle.std.proofs.Common.{None, OnOk, subst}
use Rattle.oxt_transform.specs.Refusals.{Judges}
use Rattle.oxt_tree.specs.View.{node_doc}
use Rattle.oxt_transform.proofs.transform.rewrite_and_test.Goals as goal

pub returns-in-Ok-clause-judged : goal.returns-in-Ok-clause-judged
returns-in-Ok-clause-judged c =
    subst (λ x. OnOk c.rewrite_to-tested.result (Judges x (node_doc c.rewrite_to-tested.new.program.root) None)) c.in-Ok.ensures c.rewrite_to-tested.ensures.judged
