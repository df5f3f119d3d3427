-- Lists that grow at their end.
use Rattle.std.proofs.Common.{◌≡◌, ◌∙◌, ap, List, [], ◌∷◌, ◌++◌}
use Rattle.std.proofs.lemmas.List.{map-append}
use Rattle.oxt_facts.specs.Entry.{entries, entry_of}
use Rattle.oxt_facts.specs.declared.item.Item.{Item}

pub one_more : (old new : List Item) (i : Item) → new ≡ old ++ i ∷ [] → entries new ≡ entries old ++ entry_of i ∷ []
one_more old new i is = ap entries is ∙ map-append entry_of old (i ∷ [])
