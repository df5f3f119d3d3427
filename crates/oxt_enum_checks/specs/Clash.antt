-- Declarations of one name that do not merge.
use Rattle.std.specs.Prelude.{ℕ, List, [], ◌∷◌, ◌++◌, find, fold, min, Bool, false, not, ◌&&◌, ◌||◌, if◌then◌else◌, Option, None, Some, option_map}
use Rattle.std.specs.Bool.{beq}
use Rattle.std.specs.Option.{option_or}
use Rattle.oxt_enum_checks.specs.Blocks.{blocks_of}
use Rattle.oxt_enum_checks.specs.Sought.{declarations_of, sought_blocks}
use Rattle.oxt_enum_checks.specs.Places.{Placed, places_of}
use Rattle.oxt_enum_checks.specs.Sort.{is_base, is_block, is_namespace, sort_of}
use Rattle.oxt_enum_checks.specs.declared.clash.Emitted.{Emitted}
use Rattle.oxt_enum_checks.specs.declared.blocks.Block.{Block}
use Rattle.oxt_enum_checks.specs.declared.sought.Sought.TheVariants as sought
use Rattle.oxt_enum_checks.specs.declared.places.Place.{Place}
use Rattle.oxt_enum_checks.specs.declared.sort.Sort.{Sort}
use Rattle.oxt_scoping.specs.Meant.{declared_symbol}
use Rattle.oxt_scoping.specs.Scoped.{Scoped}
use Rattle.oxt_scoping.specs.declared.entry.Redeclaration.{Redeclaration}
use Rattle.oxt_tree.specs.Doc.{Doc}

-- A block merges with a block, and a namespace with a function or class before it, unless that one too
-- stands after one. The flag says whether it does.
abbrev pub merges : Bool → Sort → Sort → Bool
merges b one other = (is_block one && is_block other) || (is_base one && (is_namespace other && not b))

-- A declaration clashes with a later one where one alone of them is exported, or where a block is among
-- them and they do not merge.
abbrev pub clashes : Bool → Emitted → Emitted → Bool
clashes b one other =
    not (beq one.place.is_exported other.place.is_exported)
    || ((is_block one.sort || is_block other.sort) && not (merges b one.sort other.sort))

-- the first of the later ones that clashes with that one
abbrev pub clash_with : Bool → Emitted → List Emitted → Option ℕ
clash_with b one es = option_map (λ e. e.place.declaration.0) (find (clashes b one) es)

-- The later one of the first two that clash: by the earlier one, and then by the later one. The flag says
-- whether a function or class stands before all of them.
abbrev pub clash_from : Bool → List Emitted → Option ℕ
clash_from b [] = None
clash_from b (e ∷ es) = option_or (clash_with b e es) (clash_from (b || is_base e.sort) es)

-- the declaration, if it emits code at that place
abbrev pub emitted_as : Redeclaration → Option Place → List Emitted
emitted_as d None = []
emitted_as d (Some p) = if d.emits then record { sort = sort_of d.flags; place = p } ∷ [] else []

-- the declarations that emit code
abbrev pub emitted : Placed → List Redeclaration → List Emitted
emitted p [] = []
emitted p (d ∷ ds) = emitted_as d (p d.node.0) ++ emitted p ds

-- the first clash among the declarations of a name
abbrev pub clash_among : Placed → List Redeclaration → Option ℕ
clash_among p ds = clash_from false (emitted p ds)

-- the lesser one, if there are two
abbrev pub lesser : Option ℕ → Option ℕ → Option ℕ
lesser None o = o
lesser (Some n) None = Some n
lesser (Some n) (Some m) = Some (min n m)

-- the first clash among the declarations of the symbol that the block declares
abbrev pub clash_of : Scoped → Placed → Block → Option ℕ
clash_of s p b = clash_among p (declarations_of (declared_symbol s b.name.0))

-- the least of the first clashes of these blocks
abbrev pub least_clash : Scoped → Placed → List Block → Option ℕ
least_clash s p bs = fold (λ o b. lesser o (clash_of s p b)) None bs

-- the same of those of these blocks that are the first of their symbols
abbrev pub clash_by : Placed → Scoped → List Block → Option ℕ
clash_by p s bs = least_clash s p (sought_blocks p sought.Block s bs)

-- The least of the first clashes of all symbols of which a block emits code: each is looked at by its
-- first block that does.
abbrev pub first_clash : Scoped → Doc → Option ℕ
first_clash s d = clash_by (places_of d) s (blocks_of d)
