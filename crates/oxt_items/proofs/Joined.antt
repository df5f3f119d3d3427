-- Items that are put behind others.
use Rattle.std.proofs.Common.{◌≡◌, ◌∙◌, ap, List, ◌++◌}
use Rattle.std.proofs.lemmas.List.{map-append}
use Rattle.oxt_facts.specs.Entry.{entries, entry_of}
use Rattle.oxt_facts.specs.declared.item.Item.{Item}

pub joined : (old more new : List Item) → new ≡ old ++ more → entries new ≡ entries old ++ entries more
joined old more new is = ap entries is ∙ map-append entry_of old more
