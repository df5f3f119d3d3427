-- The first blocks of symbols, of those declarations that are sought.
use Rattle.std.specs.Prelude.{◌≡◌, ℕ, List, [], map, filter, find, Bool, true, false, ◌&&◌, ◌||◌, nat_eq, Option, None, Some, option_map, is_some, slice_get, slice_index_or}
use Rattle.std.specs.List.{list_any}
use Rattle.std.specs.Map.{lookup}
use Rattle.std.specs.Option.{option_eq}
use Rattle.oxt_enum_checks.specs.Places.{Placed}
use Rattle.oxt_enum_checks.specs.Sort.{is_block, sort_of}
use Rattle.oxt_enum_checks.specs.declared.blocks.Block.{Block}
use Rattle.oxt_enum_checks.specs.declared.sought.Sought.{Sought}
use Rattle.oxt_enum_checks.specs.declared.sought.Sought.TheVariants as sought
use Rattle.oxt_scoping.specs.Entries.{SymbolData}
use Rattle.oxt_scoping.specs.Scoped.{Scoped}
use Rattle.oxt_scoping.specs.declared.entry.Redeclaration.{Redeclaration}
use Rattle.oxt_names.specs.declared.flags.SymbolFlags.{SymbolFlags}
use Rattle.oxt_names.specs.declared.ids.SymbolId.{SymbolId}

-- The declaration emits code. The name of a function expression, which no declaration declares, does not
-- count: what the function declares by that name hides it.
abbrev pub emits : Placed → Redeclaration → Bool
emits p d = d.emits && is_some (p d.node.0)

-- what is sought are all that emit code, or the blocks among them
abbrev pub fits : Sought → SymbolFlags → Bool
fits sought.Any f = true
fits sought.Block f = is_block (sort_of f)

-- the declaration is sought
abbrev pub is_sought : Placed → Sought → Redeclaration → Bool
is_sought p o d = emits p d && fits o d.flags

-- the name of the first declaration that emits code and is sought
abbrev pub first_name : Placed → Sought → List Redeclaration → Option ℕ
first_name p o ds = option_map (λ d. d.node.0) (find (is_sought p o) ds)

-- the same of each symbol, by the numbers of the symbols
abbrev pub first_names : Placed → Sought → List SymbolData → List (Option ℕ)
first_names p o ys = map (λ y. first_name p o y.declarations) ys

-- the name that such a list has for the symbol
abbrev pub first_at : List (Option ℕ) → Option SymbolId → Option ℕ
first_at ns None = None
first_at ns (Some i) = slice_index_or ns i.0 None

-- the list has the name of that number for the symbol that it declares
abbrev pub is_first : Scoped → List (Option ℕ) → ℕ → Bool
is_first s ns n = option_eq nat_eq (first_at ns (lookup (nat_eq n) s.declared)) (Some n)

-- those of the blocks whose names the list has for their symbols
abbrev pub firsts_among : Scoped → List (Option ℕ) → List Block → List Block
firsts_among s ns bs = filter (λ b. is_first s ns b.name.0) bs

-- those of the blocks that are the first of their symbols' declarations that are sought
abbrev pub sought_blocks : Placed → Sought → Scoped → List Block → List Block
sought_blocks p o s bs = firsts_among s (first_names p o s.symbols) bs

-- the declaration is a block that emits code
abbrev pub is_emitting_block : Redeclaration → Bool
is_emitting_block d = d.emits && is_block (sort_of d.flags)

-- one of the declarations of a symbol is
abbrev pub has_block : Option SymbolData → Bool
has_block None = false
has_block (Some y) = list_any is_emitting_block y.declarations

-- no symbol has such a block
abbrev pub HasNoBlock : Scoped → Type 0
HasNoBlock s = (n : ℕ) → has_block (slice_get s.symbols n) ≡ false

-- the declarations of a symbol
abbrev pub declarations_of : Option SymbolData → List Redeclaration
declarations_of None = []
declarations_of (Some y) = y.declarations
