-- The enum in which a node stands.
use Rattle.std.specs.Prelude.{ℕ, List, Option, None, Some, if◌then◌else◌, option_map, slice_get, codes}
use Rattle.oxt_enum_checks.specs.declared.around.EnumAround.{EnumAround}
use Rattle.oxt_scoping.specs.Entries.{SymbolData}
use Rattle.oxt_scoping.specs.Scoped.{Scoped, at_node}
use Rattle.oxt_names.specs.declared.ids.SymbolId.{SymbolId}
use Rattle.oxt_grammar.specs.Places.{same_kind}
use Rattle.oxt_grammar.specs.declared.kind.Kind.{Kind}
use Rattle.oxt_grammar.specs.declared.kind.Kind.TheVariants as kind
use Rattle.oxt_tree.specs.Doc.{Doc, node, Docs}
use Rattle.oxt_tree.specs.Fields.{named}
use Rattle.oxt_names.specs.Names.{name_bytes}

-- an enum: its symbol, the scope that declares it, and its name
pub record Enum : Type 0 where
  pub symbol : ℕ
  pub scope : ℕ
  pub name : List ℕ

abbrev pub around_view : EnumAround → Enum
around_view a = record { symbol = a.symbol.0; scope = a.scope.0; name = name_bytes a.name.now }

-- the symbol, as an enum
abbrev pub as_enum : SymbolId → SymbolData → Enum
as_enum i y = record { symbol = i.0; scope = y.scope.0; name = y.name }

-- the same of a symbol by its number, if there is one
abbrev pub enum_in : List SymbolData → Option SymbolId → Option Enum
enum_in ys None = None
enum_in ys (Some i) = option_map (as_enum i) (slice_get ys i.0)

-- the symbol that the node names
abbrev pub symbol_of_name : Scoped → Doc → Option SymbolId
symbol_of_name s (node k i b e ds) = at_node (record { 0 = i }) s.declared
symbol_of_name s d = None

-- the symbol of the enum in which the fields of a node stand, which itself stands in that one
abbrev pub within : Scoped → Kind → Docs → Option SymbolId → Option SymbolId
within s k ds a = if same_kind k kind.TSEnumDeclaration then symbol_of_name s (named (codes "id") k ds) else a
