-- The groups that names mean and declare, by the numbers of their nodes. A group is a scope together with a spelling
-- that it declares; it goes by the number of the first node that declares it.
use Rattle.std.specs.Prelude.{ℕ, List, fold, nat_eq, if◌then◌else◌, Option}
use Rattle.std.specs.Map.{lookup}
use Rattle.oxt_facts.specs.declared.facts.Inner.{Inner}

-- nodes with their groups; a name that is free has none
abbrev pub Owners : Type 0
Owners = List (ℕ × ℕ)

-- the group of the node of that number
abbrev pub owner_in : Owners → ℕ → Option ℕ
owner_in os i = lookup (nat_eq i) os

-- inside a block of an enum that becomes a function, what its parameter stands for in place of what it stood for
abbrev pub inner_if : ℕ → ℕ → Inner → ℕ
inner_if g found b = if nat_eq b.group g then b.block else found

-- the group of the parameter of the innermost such block of the group's enum, and the group itself outside of them
abbrev pub inner_group : List Inner → ℕ → ℕ
inner_group bs g = fold (inner_if g) g bs
