-- Functions and classes behind a namespace of their name.
use Rattle.std.specs.Prelude.{ℕ, List, [], ◌∷◌, fold, Bool, false, ◌&&◌, ◌||◌, if◌then◌else◌, Option, None, Some}
use Rattle.oxt_enum_checks.specs.Blocks.{blocks_of}
use Rattle.oxt_enum_checks.specs.Clash.{emitted, lesser}
use Rattle.oxt_enum_checks.specs.Places.{Placed, places_of}
use Rattle.oxt_enum_checks.specs.Sort.{is_base, is_namespace}
use Rattle.oxt_enum_checks.specs.Sought.{declarations_of, sought_blocks}
use Rattle.oxt_enum_checks.specs.declared.clash.Emitted.{Emitted}
use Rattle.oxt_enum_checks.specs.declared.blocks.Block.{Block}
use Rattle.oxt_enum_checks.specs.declared.sought.Sought.TheVariants as sought
use Rattle.oxt_scoping.specs.Meant.{declared_symbol}
use Rattle.oxt_scoping.specs.Scoped.{Scoped}
use Rattle.oxt_scoping.specs.declared.entry.Redeclaration.{Redeclaration}
use Rattle.oxt_tree.specs.Doc.{Doc}

-- The first function or class that stands behind a namespace. The flag says whether one stands before all of them.
abbrev pub late_from : Bool → List Emitted → Option ℕ
late_from b [] = None
late_from b (e ∷ es) = if b && is_base e.sort then Some e.place.declaration.0 else late_from (b || is_namespace e.sort) es

-- the first such one among the declarations of a name that emit code
abbrev pub late_among : Placed → List Redeclaration → Option ℕ
late_among p ds = late_from false (emitted p ds)

-- the same among the declarations of the symbol that the block declares
abbrev pub late_of : Scoped → Placed → Block → Option ℕ
late_of s p b = late_among p (declarations_of (declared_symbol s b.name.0))

-- the least of these of the blocks
abbrev pub least_late : Scoped → Placed → List Block → Option ℕ
least_late s p bs = fold (λ o b. lesser o (late_of s p b)) None bs

-- the same of those of these blocks that are the first of their symbols
abbrev pub late_by : Placed → Scoped → List Block → Option ℕ
late_by p s bs = least_late s p (sought_blocks p sought.Block s bs)

-- The least number of a function or class that emits code and stands behind a namespace of its name and scope that does:
-- each name is looked at by its first block that emits code.
abbrev pub late_base : Scoped → Doc → Option ℕ
late_base s d = late_by (places_of d) s (blocks_of d)
