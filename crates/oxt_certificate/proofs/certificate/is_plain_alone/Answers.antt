-- Where no wrapper may stay, plain beside them is plain.
use Rattle.std.proofs.Common.{◌∙◌, sym}
use Rattle.oxt_tree.specs.View.{node_doc}
use Rattle.oxt_certificate.proofs.Quick.{plain_alone}
use Rattle.oxt_certificate.proofs.certificate.is_plain_alone.Goals as goal

pub returns-then-len-eq0 : goal.returns-then-len-eq0
returns-then-len-eq0 c =
    λ h. plain_alone c.plain_beside_nothing.ensures c.args.targets.now (node_doc c.args.output.now) (sym c.len.ensures ∙ c.if-len-eq0.true) ∙ (sym c.is_plain.ensures ∙ h)
