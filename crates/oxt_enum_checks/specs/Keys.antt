-- The names of members that were met, as the program keeps them.
use denote.Ref.{Bor}
use Rattle.std.specs.Prelude.{ℕ, List, map, Bool, ◌&&◌, ◌||◌, ◌==◌}
use Rattle.std.specs.List.{list_any}
use Rattle.std.specs.Str.{bytes_eq}
use Rattle.oxt_enum_checks.specs.Members.{Member}

-- the symbol of an enum, and the name of a member of it
abbrev pub Key : Type 0
Key = ℕ × List ℕ

abbrev pub key_of : Member → Key
key_of m = (m.around.symbol, m.name)

abbrev pub key_view : ℕ × Bor (List ℕ) → Key
key_view k = (k.0, k.1.now)

abbrev pub keys_in : List (ℕ × Bor (List ℕ)) → List Key
keys_in ks = map key_view ks

abbrev pub same_key : Key → Key → Bool
same_key a b = a.0 == b.0 && bytes_eq a.1 b.1

-- it is one of them
abbrev pub is_noted : List Key → Key → Bool
is_noted ks k = list_any (same_key k) ks

-- the member has the name of its enum, or one of these
abbrev pub is_repeated_in : List Key → Member → Bool
is_repeated_in ks m = bytes_eq m.name m.around.name || is_noted ks (key_of m)
