-- What is met, numbered in the order in which it is met first.
use Rattle.std.specs.Prelude.{ℕ, ◌≡◌, List, nat_eq, position, String, string_bytes}
use Rattle.std.specs.Map.{lookup}
use Rattle.std.specs.Str.{bytes_eq}
use Rattle.std.specs.declared.alloc.Global.{Global}

-- the table has each group's place
abbrev pub AreNumbered : List ℕ → List (ℕ × ℕ) → Type 0
AreNumbered gs es = (g : ℕ) → lookup (nat_eq g) es ≡ position (nat_eq g) gs

-- the table has each text's place
abbrev pub AreTextsNumbered : List (List ℕ) → List (String Global × ℕ) → Type 0
AreTextsNumbered ts es = (t : List ℕ) → lookup (λ k. bytes_eq t (string_bytes k)) es ≡ position (bytes_eq t) ts
