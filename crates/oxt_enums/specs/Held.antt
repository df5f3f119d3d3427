-- How much text the constants of members hold.
use Rattle.std.specs.Prelude.{ℕ, ◌+◌, List, [], ◌∷◌, length, Option, None, Some}
use Rattle.oxt_enums.specs.Constants.{Told}
use Rattle.oxt_names.specs.Constant.{Constant, integer, string}

-- the bytes of the text of a constant; a number has none
abbrev pub held_by : Option Constant → ℕ
held_by None = 0
held_by (Some (integer z)) = 0
held_by (Some (string t)) = length t

-- the bytes of the texts of the constants of members: of each its own
abbrev pub held : List Told → ℕ
held [] = 0
held (t ∷ ts) = held_by t.value + held ts
