-- What a reference means.
use Rattle.std.specs.Prelude.{ℕ, List, [], length, nat_lt, if◌then◌else◌, Option, None, Some}
use Rattle.oxt_names.specs.declared.ids.SymbolId.{SymbolId}
use Rattle.oxt_names.specs.declared.ids.NodeId.{NodeId}
use Rattle.oxt_scoping.specs.Meant.{meant}
use Rattle.oxt_scoping.specs.Scoped.{Scoped}

-- the symbol, if there is one with that number
abbrev pub if_known : Scoped → Option SymbolId → Option SymbolId
if_known s None = None
if_known s (Some y) = if nat_lt y.0 (length s.symbols) then Some y else None

-- the symbol that the reference of the node means, where it has one that means a symbol of the table
abbrev pub symbol_meant : NodeId → Scoped → Option SymbolId
symbol_meant n s = if_known s (meant s n.0)

-- the text, if there is one, and else no text
abbrev pub or_empty : Option (List ℕ) → List ℕ
or_empty None = []
or_empty (Some t) = t
