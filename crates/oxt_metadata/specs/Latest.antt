-- The shapes of the enums that names in types mean, by the last block before each name.
use Rattle.std.specs.Prelude.{ℕ, List, [], ◌∷◌, nat_eq, if◌then◌else◌, Option, None, Some}
use Rattle.std.specs.Map.{lookup}
use Rattle.std.specs.Option.{option_or}
use Rattle.oxt_metadata.specs.declared.events.Event.{Event}
use Rattle.oxt_metadata.specs.declared.events.Event.TheVariants as event
use Rattle.oxt_metadata.specs.declared.shape.Shape.{Shape}
use Rattle.oxt_metadata.specs.declared.shapes.EnumShapes.{EnumShapes}

-- the shapes of the blocks that stood last, by the numbers of their enums' symbols
abbrev pub Blocks : Type 0
Blocks = ℕ → Option Shape

-- with one more block
abbrev pub with_block : ℕ → Shape → Blocks → Blocks
with_block y p e n = if nat_eq n y then Some p else e n

-- The shape that the name of that number has among these events, before which these blocks stood: that of the last block of its
-- enum before it.
abbrev pub shaped : Blocks → List Event → ℕ → Option Shape
shaped e [] n = None
shaped e (event.Block y p ∷ es) n = shaped (with_block y.0 p e) es n
shaped e (event.Name i y ∷ es) n = option_or (shaped e es n) (if nat_eq n i.0 then e y.0 else None)

-- the same by a table of the program
abbrev pub shape_in : EnumShapes → ℕ → Option Shape
shape_in t n = lookup (nat_eq n) t.shapes.entries

-- ---- how the program finds that out

-- what a table has, by number
abbrev pub shapes_at : List (ℕ × Shape) → ℕ → Option Shape
shapes_at es n = lookup (nat_eq n) es

-- what was noted so far of blocks and of names
pub record Noted : Type 0 where
  pub latest : Blocks
  pub shapes : ℕ → Option Shape

-- with that of one more name, if there is one
abbrev pub with_shape : ℕ → Option Shape → (ℕ → Option Shape) → ℕ → Option Shape
with_shape i None e = e
with_shape i (Some p) e = with_block i p e

abbrev pub noted : Event → Noted → Noted
noted (event.Block y p) n = record n { latest = with_block y.0 p n.latest }
noted (event.Name i y) n = record n { shapes = with_shape i.0 (n.latest y.0) n.shapes }
