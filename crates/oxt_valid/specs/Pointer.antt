-- JSON pointers: the places of values in a JSON text.
use Rattle.std.specs.Prelude.{ℕ, List, ◌++◌, codes}

-- the place of what stands at `place` below a key or an index
abbrev pub at_key : List ℕ → List ℕ → List ℕ
at_key name place = codes "/" ++ name ++ place
