-- The blocks of the enums of a tree, by the scopes that declare them.
use Rattle.std.specs.Prelude.{ℕ, List, [], ◌∷◌, ◌++◌, Bool, true, false, not, ◌&&◌, if◌then◌else◌, map}
use Rattle.oxt_declares.specs.Declarations.{Declared}
use Rattle.oxt_declares.specs.declared.declaration.Sort.{Sort}
use Rattle.oxt_declares.specs.declared.declaration.Sort.TheVariants as sort
use Rattle.oxt_enums.specs.declared.blocks.EnumBlock.{EnumBlock}
use Rattle.oxt_scopes.specs.Scopes.{number_of}
use Rattle.oxt_scopes.specs.Nestings.{Opened}
use Rattle.oxt_scopes.specs.declared.standing.Emission.{Emission}
use Rattle.oxt_scopes.specs.declared.standing.Emission.TheVariants as emission
use Rattle.oxt_scopes.specs.declared.standing.Standing.{Standing}

-- a block of an enum: the number of its body, that of the scope that declares it, its name, whether
-- it is `const`, and whether it is there at run time
pub record Block : Type 0 where
  pub body : ℕ
  pub scope : ℕ
  pub name : List ℕ
  pub is_const : Bool
  pub is_emitted : Bool

abbrev pub is_enum : Sort → Bool
is_enum sort.Enum = true
is_enum sort.ConstEnum = true
is_enum s = false

abbrev pub is_const : Sort → Bool
is_const sort.ConstEnum = true
is_const s = false

abbrev pub is_emitted_by : Emission → Bool
is_emitted_by emission.Emitted = true
is_emitted_by e = false

abbrev pub is_emitted : Standing → Bool
is_emitted s = is_emitted_by s.emission

-- the declaration in the scope of that number, if it is a block of an enum
abbrev pub own_block : ℕ → Standing → Declared → List Block
own_block n s d =
    if is_enum d.sort then record { body = number_of d.body; scope = n; name = d.name; is_const = is_const d.sort; is_emitted = is_emitted s && not d.ambient } ∷ [] else []

-- those among the declarations of a scope
abbrev pub blocks_among : ℕ → Standing → List Declared → List Block
blocks_among n s [] = []
blocks_among n s (d ∷ ds) = own_block n s d ++ blocks_among n s ds

-- those of all scopes
abbrev pub blocks_in : List Opened → List Block
blocks_in [] = []
blocks_in (s ∷ ss) = blocks_among s.number s.standing s.declared ++ blocks_in ss

abbrev pub block_view : EnumBlock → Block
block_view b = record { body = b.body.0; scope = b.scope.0; name = b.name.now; is_const = b.is_const; is_emitted = b.is_emitted }

abbrev pub block_views : List EnumBlock → List Block
block_views bs = map block_view bs
