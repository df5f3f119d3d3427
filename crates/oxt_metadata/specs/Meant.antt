-- What names mean.
use Rattle.std.specs.Prelude.{ℕ, Bool, false, not, ◌==◌, Option, None, Some}
use Rattle.std.specs.Int.RustNames.{bit_and}
use Rattle.oxt_names.specs.declared.flags.SymbolFlags.{SymbolFlags}
use Rattle.oxt_names.specs.declared.ids.SymbolId.{SymbolId}
use Rattle.oxt_scoping.specs.Entries.{SymbolData, value_bits}
use Rattle.oxt_scoping.specs.Meant.{meant, symbol_in}
use Rattle.oxt_scoping.specs.Scoped.{Scoped, at_node}
use Rattle.oxt_tree.specs.Doc.{Doc, nil, flag, number, text, list, node}

-- the symbol that a node declares
abbrev pub declared_by : Scoped → Doc → Option SymbolId
declared_by s nil = None
declared_by s (flag b) = None
declared_by s (number n) = None
declared_by s (text t) = None
declared_by s (list ds) = None
declared_by s (node k i b e ds) = at_node (record { 0 = i }) s.declared

-- more than a type
abbrev pub is_value : SymbolFlags → Bool
is_value f = not (bit_and f.0 value_bits == 0)

-- a symbol that nothing but types declares
abbrev pub is_type_alone_at : Option SymbolData → Bool
is_type_alone_at None = false
is_type_alone_at (Some y) = not (is_value y.flags)

-- the name of that number means nothing but types
abbrev pub is_type_alone : Scoped → ℕ → Bool
is_type_alone s n = is_type_alone_at (symbol_in s.symbols (meant s n))
