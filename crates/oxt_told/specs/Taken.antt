-- A name, unless it is taken.
use Rattle.std.specs.Prelude.{ℕ, List, [], ◌∷◌, if◌then◌else◌}
use Rattle.oxt_names.specs.Made.{is_among}

-- that name, where it is new
abbrev pub free_name : List (List ℕ) → List ℕ → List (List ℕ)
free_name ts t = if is_among t ts then [] else t ∷ []
