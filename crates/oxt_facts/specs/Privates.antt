-- The private names of classes: one that stores what an accessor with a made name as its key holds stands for
-- that made name.
use Rattle.std.specs.Prelude.{ℕ, eqb, List, [], ◌-◌, if◌then◌else◌, length, take, drop, Option, None, Some, codes}
use Rattle.std.specs.List.{starts_with, ends_with, fold}
use Rattle.oxt_names.specs.Made.{is_among}

-- the private names that a class has of its own, and the made names that are the keys of its setters
pub record Privates : Type 0 where
  pub names : List (List ℕ)
  pub made : List (List ℕ)

-- no names
abbrev pub no_privates : Privates
no_privates = record { names = []; made = [] }

-- the end of the names of such storages
unfoldable pub storage_end : List ℕ
storage_end = codes "_computed_accessor_storage"

-- the name m in `m_computed_accessor_storage`, and in the same with an underscore in front
abbrev pub owner_of_end : List ℕ → Option (List ℕ)
owner_of_end t = if ends_with eqb t storage_end then Some (take (length t - length storage_end) t) else None

-- the text after an underscore
abbrev pub after_front : List ℕ → Option (List ℕ)
after_front t = if starts_with eqb t (codes "_") then Some (drop 1 t) else None

abbrev pub owner_in : Option (List ℕ) → Option (List ℕ)
owner_in None = None
owner_in (Some t) = owner_of_end t

abbrev pub storage_owner : List ℕ → Option (List ℕ)
storage_owner t = owner_in (after_front t)

-- the name, if it is among those
abbrev pub one_of : List (List ℕ) → Option (List ℕ) → Option (List ℕ)
one_of ms None = None
one_of ms (Some m) = if is_among m ms then Some m else None

-- the made name whose accessor the private name stores, in a class that has it of its own; what is said of
-- it further out elsewhere
abbrev pub stored_in : List ℕ → Option (List ℕ) → Privates → Option (List ℕ)
stored_in t outer c = if is_among t c.names then one_of c.made (storage_owner t) else outer

-- the same in the innermost of the classes that has it, which stand outermost first
abbrev pub stored_by : List Privates → List ℕ → Option (List ℕ)
stored_by cs t = fold (stored_in t) None cs
