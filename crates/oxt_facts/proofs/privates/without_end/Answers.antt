use Rattle.oxt_facts.proofs.Strips.{end_of}
use Rattle.oxt_facts.specs.Privates.{storage_end}
use Rattle.oxt_facts.proofs.privates.without_end.Goals as goal

pub returns : goal.returns
unfolding storage_end
returns c = end_of storage_end c.args.name.now c.strip_suffix.result c.strip_suffix.ensures.cases
