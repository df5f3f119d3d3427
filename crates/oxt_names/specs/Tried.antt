-- What the table of taken names says: each of them with the next number to try behind it.
use Rattle.std.specs.Prelude.{ℕ, ◌≤◌, ◌<◌, ◌^◌, ◌-◌, ◌≡◌, List, [], ◌∷◌, ◌++◌, map, true, false, String, string_bytes}
use Rattle.std.specs.Fmt.{decimal}
use Rattle.std.specs.declared.alloc.Global.{Global}
use Rattle.oxt_names.specs.Made.{is_among}

-- an entry of the table
abbrev pub Entry : Type 0
Entry = String Global × ℕ

-- the names of the table
abbrev pub spellings : List Entry → List (List ℕ)
spellings es = map (λ e. string_bytes e.0) es

-- behind that text each number from 2 on and below that one gives a text that is among the others
abbrev pub TriedBelow : List (List ℕ) → List ℕ → ℕ → Type 0
TriedBelow taken base n = (2 ≤ n) × ((k : ℕ) → 2 ≤ k → k < n → is_among (base ++ decimal k) taken ≡ true)

-- the same of every entry
abbrev pub AllTried : List (List ℕ) → List Entry → Type 0
AllTried taken [] = Unit {0}
AllTried taken (e ∷ es) = TriedBelow taken (string_bytes e.0) e.1 × AllTried taken es

-- a table's own entries
abbrev pub IsTried : List Entry → Type 0
IsTried es = AllTried (spellings es) es

-- the text is the base with a number, which is the first from that one on that gives a free text
pub record FirstFree (taken : List (List ℕ)) (base : List ℕ) (from number : ℕ) (t : List ℕ) : Type 0 where
  pub numbered : t ≡ base ++ decimal number
  pub late : from ≤ number
  pub small : number < 2 ^ 64 - 1
  pub free : is_among t taken ≡ false
  pub before : (k : ℕ) → from ≤ k → k < number → is_among (base ++ decimal k) taken ≡ true
