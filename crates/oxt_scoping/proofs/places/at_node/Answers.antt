use Rattle.std.proofs.Common.{◌∙◌}
use Rattle.oxt_scoping.proofs.Tables.{looked_up}
use Rattle.oxt_scoping.proofs.places.at_node.Goals as goal

pub returns : goal.returns
returns g c = c.copied.ensures ∙ c.get.ensures.value ∙ looked_up c.args.node.0 c.args.table.now.entries
