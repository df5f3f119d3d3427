-- The enums of a tree, each with its blocks.
use Rattle.std.specs.Prelude.{ℕ, ◌≡◌, List, [], ◌∷◌, ◌++◌, ◌==◌, ◌&&◌, Bool, Option, None, Some, filter, if◌then◌else◌, map, option_map}
use Rattle.std.specs.Str.{bytes_eq}
use Rattle.oxt_enums.specs.Blocks.{Block, block_view}
use Rattle.oxt_enums.specs.Tables.{Name, at_name}
use Rattle.oxt_enums.specs.declared.blocks.EnumBlock.{EnumBlock}
use Rattle.oxt_enums.specs.declared.groups.Group.{Group}
use Rattle.oxt_enums.specs.declared.groups.Groups.{Groups}
use Rattle.oxt_names.specs.declared.ids.NodeId.{NodeId}

-- an enum: whether its first block is `const`, and the numbers of the bodies of its blocks in the
-- order of the text
pub record Enum : Type 0 where
  pub is_const : Bool
  pub bodies : List ℕ

abbrev pub body_of : Block → ℕ
body_of b = b.body

-- the enum that has these blocks, if there is one
abbrev pub enum_of : List Block → Option Enum
enum_of [] = None
enum_of (b ∷ bs) = Some (record { is_const = b.is_const; bodies = map body_of (b ∷ bs) })

-- the enum, if there is one, with one block more
abbrev pub extended : Option Enum → Block → Enum
extended None b = record { is_const = b.is_const; bodies = b.body ∷ [] }
extended (Some e) b = record e { bodies = e.bodies ++ b.body ∷ [] }

-- a block of the enum of that name that the scope of that number declares
abbrev pub is_block_of : ℕ → List ℕ → Block → Bool
is_block_of n t b = n == b.scope && bytes_eq t b.name

-- the enum of that name that the scope declares, if there is one
abbrev pub enum_in : List Block → ℕ → List ℕ → Option Enum
enum_in bs n t = enum_of (filter (is_block_of n t) bs)

-- Enums of the program, as contracts see them.
abbrev pub number_of : NodeId → ℕ
number_of i = i.0

abbrev pub enum_view : Group → Enum
enum_view g = record { is_const = g.is_const; bodies = map number_of g.bodies.items }

abbrev pub enum_at : ℕ → List ℕ → Groups → Option Enum
enum_at n t g = option_map enum_view (at_name n t g.groups.entries)

abbrev pub Entries : Type 0
Entries = List (Name × Group)

abbrev pub named_at : ℕ → List ℕ → Entries → Option Enum
named_at n t es = option_map enum_view (at_name n t es)

-- The block has come to its enum.
pub record Puts (b : EnumBlock) (old new : Entries) : Type 0 where
  pub put : (n : ℕ) (t : List ℕ) → named_at n t new ≡ (if is_block_of n t (block_view b) then Some (extended (named_at n t old) (block_view b)) else named_at n t old)
