-- The wrappers that may stay are those of the source.
use Rattle.std.proofs.Common.{◌≡◌, IfOk, subst}
use Rattle.oxt_options.specs.Options.{transform_view}
use Rattle.oxt_told.specs.Source.{asked_of}
use Rattle.oxt_certificate.specs.Expected.{expected_beside, expected_view}
use Rattle.oxt_tree.specs.View.{node_doc}
use Rattle.oxt_certificate.proofs.expected.Expected.of.Goals as goal

pub returns : goal.returns
returns c =
    subst (λ ns. IfOk c.beside.result (λ expected. expected_view expected ≡ expected_beside ns c.args.scoping.now c.args.names.groups c.args.names.taken (asked_of c.args.plan.now) (transform_view c.args.options.now) (node_doc c.args.source.now)))
    c.in_ok-targets.ensures c.beside.ensures
