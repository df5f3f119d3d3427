-- What the types of a program are read by.
use Rattle.std.specs.Prelude.{ℕ, Bool, Option, None}
use Rattle.oxt_metadata.specs.Events.{events}
use Rattle.oxt_metadata.specs.Latest.{shape_in, shaped}
use Rattle.oxt_metadata.specs.declared.shape.Shape.{Shape}
use Rattle.oxt_metadata.specs.declared.sight.Sight.{Sight}
use Rattle.oxt_scoping.specs.Scoped.{Scoped}
use Rattle.oxt_tree.specs.Doc.{Doc}

-- the table of scopes and symbols, the shapes of the enums that names in types mean, and whether null and undefined count
pub record Seeing : Type 0 where
  pub table : Scoped
  pub shape : ℕ → Option Shape
  pub is_strict : Bool

-- as the program has it
abbrev pub sight_view : Sight → Seeing
sight_view s = record { table = s.scoping.now; shape = shape_in s.shapes.now; is_strict = s.is_strict }

-- of a program
abbrev pub seeing : Scoped → Bool → Doc → Seeing
seeing s strict d = record { table = s; shape = shaped (λ _. None) (events s d); is_strict = strict }
