use Rattle.std.proofs.Common.{◌∙◌, ap, sym}
use Rattle.oxt_scoping.proofs.Tables.{removed}
use Rattle.oxt_scoping.specs.Scoped.{with_before}
use Rattle.oxt_scoping.proofs.places.put_back.Goals as goal

pub returns-in-None : goal.returns-in-None
returns-in-None g c = c.remove.ensures.entries ∙ removed c.args.node.0 c.args.table.now.entries ∙ ap (λ o. with_before c.args.node o c.args.table.now.entries) (sym c.in-None.is)
