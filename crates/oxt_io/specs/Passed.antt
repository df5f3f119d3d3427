-- Which of the bytes that a source told it had left came out of it, and which a sink told that it took.
use Rattle.std.specs.Prelude.{◌≡◌, ℕ, ◌<◌, ◌≤◌, List, [], ◌++◌, length, take, ⊤}
use Rattle.std.specs.Io.KnownBytes.{Appends, Consumes}
use Rattle.std.specs.Prelude.{Option, None, Some}

-- a source that told what it had left gave exactly these bytes, and has none left
abbrev pub GaveAll : Option (List ℕ) → Option (List ℕ) → List ℕ → Type 0
GaveAll None now bytes = ⊤
GaveAll (Some had) now bytes = (had ≡ bytes) × (now ≡ Some [])

-- a source gave more bytes than the limit
abbrev pub GavePast : Option (List ℕ) → Option (List ℕ) → ℕ → Type 0
GavePast before now limit = (bytes : List ℕ) × Consumes before now bytes × (limit < length bytes)

-- the next n bytes of a source were put behind those that were held
abbrev pub TakesIn : Option (List ℕ) → Option (List ℕ) → List ℕ → List ℕ → ℕ → Type 0
TakesIn before now held holds n = (bytes : List ℕ) × Consumes before now bytes × (holds ≡ held ++ bytes) × (length bytes ≡ n)

-- a sink took a prefix of these bytes
abbrev pub AppendsPrefix : Option (List ℕ) → Option (List ℕ) → List ℕ → Type 0
AppendsPrefix before now bytes = (n : ℕ) × (n ≤ length bytes) × Appends before now (take n bytes)
