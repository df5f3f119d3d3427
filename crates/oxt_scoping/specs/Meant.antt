-- What the names of a tree mean, each by the number of its node.
use Rattle.std.specs.Prelude.{ℕ, List, ◌==◌, nat_eq, if◌then◌else◌, Option, None, Some, slice_get}
use Rattle.std.specs.Int.RustNames.{bit_and}
use Rattle.std.specs.Map.{lookup}
use Rattle.oxt_names.specs.declared.ids.ReferenceId.{ReferenceId}
use Rattle.oxt_names.specs.declared.ids.SymbolId.{SymbolId}
use Rattle.oxt_scoping.specs.Entries.{SymbolData}
use Rattle.oxt_scoping.specs.Scoped.{Scoped, at_node, live_at, still}
use Rattle.oxt_scoping.specs.declared.entry.Reference.{Reference}
use Rattle.oxt_scoping.specs.declared.entry.Slot.{Slot}

-- ---- symbols

-- a symbol by its number, if there is one
abbrev pub symbol_in : List SymbolData → Option SymbolId → Option SymbolData
symbol_in ys None = None
symbol_in ys (Some i) = slice_get ys i.0

-- the symbol that the node of that number declares
abbrev pub declared_symbol : Scoped → ℕ → Option SymbolData
declared_symbol s n = symbol_in s.symbols (lookup (nat_eq n) s.declared)

-- ---- references

-- a reference by its number, if there is one
abbrev pub reference_in : List Slot → Option ReferenceId → Option Reference
reference_in ss None = None
reference_in ss (Some r) = live_at ss r.0

-- the reference of the node of that number
abbrev pub reference_at : Scoped → ℕ → Option Reference
reference_at s n = reference_in s.references (still s.references (at_node (record { 0 = n }) s.named))

-- a use as a value, and not in a type
abbrev pub by_value : Option Reference → Option Reference
by_value None = None
by_value (Some r) = if bit_and r.flags.0 4 == 4 then None else Some r

-- how the node of that number is used, if it is a name that is used as a value
abbrev pub value_use : Scoped → ℕ → Option Reference
value_use s n = by_value (reference_at s n)

-- ---- what they mean

-- the symbol that a reference means
abbrev pub meant_by : Option Reference → Option SymbolId
meant_by None = None
meant_by (Some r) = r.symbol

-- the symbol that the node of that number means
abbrev pub meant : Scoped → ℕ → Option SymbolId
meant s n = meant_by (reference_at s n)

-- the same, if it is used as a value
abbrev pub value_meant : Scoped → ℕ → Option SymbolId
value_meant s n = meant_by (value_use s n)
