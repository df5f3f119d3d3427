-- Blocks of enums and namespaces before which nothing of their name emits code.
use Rattle.std.specs.Prelude.{ℕ, List, map}
use Rattle.oxt_enum_checks.specs.Blocks.{blocks_of}
use Rattle.oxt_enum_checks.specs.Places.{Placed, places_of}
use Rattle.oxt_enum_checks.specs.Sought.{sought_blocks}
use Rattle.oxt_enum_checks.specs.declared.blocks.Block.{Block}
use Rattle.oxt_enum_checks.specs.declared.sought.Sought.TheVariants as sought
use Rattle.oxt_scoping.specs.Scoped.{Scoped}
use Rattle.oxt_tree.specs.Doc.{Doc}

-- the numbers of blocks
abbrev pub numbers_of : List Block → List ℕ
numbers_of bs = map (λ b. b.node.0) bs

-- those of these blocks whose names are those of the first declarations of their symbols that emit code, where these are the
-- declarations of the names
abbrev pub first_by : Placed → Scoped → List Block → List ℕ
first_by p s bs = numbers_of (sought_blocks p sought.Any s bs)

-- the same of a whole tree
abbrev pub first_blocks : Scoped → Doc → List ℕ
first_blocks s d = first_by (places_of d) s (blocks_of d)
