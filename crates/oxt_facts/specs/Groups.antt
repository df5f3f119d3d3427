-- The groups of names in a word, numbered by the first item that declares each.
use Rattle.std.specs.Prelude.{ℕ, List, [], ◌∷◌, ◌++◌, map, position, Bool, true, false, nat_eq, if◌then◌else◌, Option, None, Some}
use Rattle.std.specs.List.{list_any}
use Rattle.oxt_facts.specs.Entry.{Entry}
use Rattle.oxt_facts.specs.declared.item.ItemKind.{ItemKind}
use Rattle.oxt_facts.specs.declared.item.ItemKind.TheVariants as item

-- the items that declare a name that is not made
abbrev pub is_declaring : ItemKind → Bool
is_declaring item.Bind = true
is_declaring item.In = true
is_declaring m = false

-- the groups that were met, and that one
abbrev pub with_met : Option ℕ → List ℕ → List ℕ
with_met None gs = gs
with_met (Some g) gs = if list_any (nat_eq g) gs then gs else gs ++ g ∷ []

-- the groups that were met, and what the item declares
abbrev pub met_in : Entry → List ℕ → List ℕ
met_in e gs = if is_declaring e.kind then with_met e.group gs else gs

-- the groups that items declare, in the order of their first declarations, behind those that were met
abbrev pub groups_met : List ℕ → List Entry → List ℕ
groups_met gs [] = gs
groups_met gs (e ∷ es) = groups_met (met_in e gs) es

-- the number of a group among these; what none of them is stands for nothing when the code runs, and is free
abbrev pub number_among : List ℕ → Option ℕ → Option ℕ
number_among gs None = None
number_among gs (Some g) = position (nat_eq g) gs

abbrev pub with_number_among : List ℕ → Entry → Entry
with_number_among gs e = record e { group = number_among gs e.group }

-- items with their groups numbered
abbrev pub numbered_groups : List Entry → List Entry
numbered_groups es = map (with_number_among (groups_met [] es)) es
