-- The table's entry, seen as contracts see it.
use Rattle.std.proofs.Common.{ap, ◌∙◌, option_map}
use Rattle.oxt_facts.specs.Told.{Tellings, told_of, told_view}
use Rattle.oxt_facts.proofs.Tells.{at_number, told_found, told_lent}
use Rattle.oxt_facts.proofs.told.ToldNodes.of.Goals as goal

pub returns : goal.returns
returns c =
    told_lent c.get.result ∙ ap (option_map told_view) (c.get.ensures.value ∙ at_number c.args.node.0 c.self.inside.nodes.entries) ∙ told_found c.self.inside.nodes.entries c.args.node.0
    ∙ ap (λ (ts : Tellings). told_of ts c.args.node.0) c.self.view_is
