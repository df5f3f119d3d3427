-- How much text the constants of a tree may take.
use Rattle.std.specs.Prelude.{ℕ, ◌^◌}

-- as many bytes as an input may have
abbrev pub most_text : ℕ
most_text = 2 ^ 24
