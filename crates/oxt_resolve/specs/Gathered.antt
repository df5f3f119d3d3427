-- What a list says of a number.
use Rattle.std.specs.Map.{lookup}
use Rattle.std.specs.Prelude.{ℕ, List, fold, ◌==◌, if◌then◌else◌, Option, None, Some}

-- what is known of a number once each of these that has it has added to what was known
abbrev pub gathered : {A V : Type 0} → (A → ℕ) → (V → A → V) → V → List A → ℕ → V
gathered number add v xs n = fold (λ w x. if n == number x then add w x else w) v xs

-- what stands there, and else this
abbrev pub or_this : {V : Type 0} → V → Option V → V
or_this v None = v
or_this v (Some w) = w

-- what stands at a number
abbrev pub at_number : {V : Type 0} → ℕ → List (ℕ × V) → Option V
at_number i es = lookup (λ k. i == k) es
