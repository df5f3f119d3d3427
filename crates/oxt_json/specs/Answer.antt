-- What comes of reading a value.
use Rattle.std.specs.Prelude.{ℕ, List, [], Option, None, Some, Result, Ok, Err}
use Rattle.oxt_valid.specs.Pointer.{at_key}

-- what was read and the next number of a node, or the place of the first wrong value: a JSON pointer from the value that is read
abbrev pub Answer : Type 0 → Type 0
Answer A = Result (A × ℕ) (List ℕ)

-- what stands at a key was read: a fault's place begins with the key
abbrev pub below : {A : Type 0} → List ℕ → Answer A → Answer A
below name (Ok x) = Ok x
below name (Err place) = Err (at_key name place)

-- what is read after this
abbrev pub and_then : {A B : Type 0} → Answer A → (A → ℕ → Answer B) → Answer B
and_then (Ok p) f = f p.0 p.1
and_then (Err place) f = Err place

-- what is made of what was read
abbrev pub mapped : {A B : Type 0} → (A → B) → Answer A → Answer B
mapped f (Ok p) = Ok (f p.0, p.1)
mapped f (Err place) = Err place

-- what is allowed is read; else the value itself is wrong
abbrev pub allowed : {A : Type 0} → Option A → ℕ → Answer A
allowed None n = Err []
allowed (Some x) n = Ok (x, n)
