-- What the program notes of each symbol, by their numbers, before it looks at the names.
use Rattle.std.specs.Prelude.{ℕ, List, map, Bool, false, if◌then◌else◌, Option, None, Some, option_map, slice_get, slice_index_or}
use Rattle.std.specs.List.{list_any}
use Rattle.oxt_faults.specs.Captured.{Capture, emits, is_captured}
use Rattle.oxt_scoping.specs.Entries.{SymbolData}
use Rattle.oxt_scoping.specs.Meant.{value_meant}
use Rattle.oxt_scoping.specs.Scoped.{Scoped}
use Rattle.oxt_search.specs.Sought.{Sought}
use Rattle.oxt_tree.specs.declared.inside.Inside.TheVariants as inside
use Rattle.oxt_names.specs.declared.ids.SymbolId.{SymbolId}
use Rattle.oxt_declares.specs.Dropped.{inside_dropped_by, is_dropped_by}

-- of each symbol whether a declaration of it emits code
abbrev pub emitting_symbols : Scoped → List Bool
emitting_symbols s = map (λ y. emits y.declarations) s.symbols

-- of each symbol whether it is captured, where the declarations with these names are left out
abbrev pub captured_symbols : Scoped → (ℕ → Bool) → List Bool
captured_symbols s ls = map (is_captured s ls) s.symbols

-- a symbol is marked
abbrev pub has_mark : List Bool → Bool
has_mark bs = list_any (λ b. b) bs

-- what is noted of the symbol
abbrev pub mark_at : List Bool → SymbolId → Bool
mark_at bs i = slice_index_or bs i.0 false

-- a use of the symbol at the node
abbrev pub use_of : ℕ → SymbolData → Capture
use_of n y = record { node = n; name = y.name }

-- the node that means the symbol, if that one is marked
abbrev pub marked_as : Scoped → List Bool → ℕ → Option SymbolId → Option Capture
marked_as s bs n None = None
marked_as s bs n (Some i) = if mark_at bs i then option_map (use_of n) (slice_get s.symbols i.0) else None

-- the node with that number, if the symbol that it means is marked
abbrev pub marked_at : Scoped → List Bool → ℕ → Option Capture
marked_at s bs n = marked_as s bs n (value_meant s n)

-- outside what is erased, each node that means a marked symbol
abbrev pub marked : Bool → Scoped → List Bool → Sought (Unit {0}) Capture
marked legacy s bs =
    record {
      at = λ u k i ds. if is_dropped_by k ds then None else marked_at s bs i;
      inside = λ u k i ds. if is_dropped_by k ds then inside_dropped_by legacy k ds tt else inside.Alike u;
      in_field = λ u k r. Some u;
    }
