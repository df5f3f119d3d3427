-- The groups that names mean and declare, by the table of scopes and symbols.
use Rattle.std.specs.Prelude.{ℕ, if◌then◌else◌, Option, None}
use Rattle.oxt_scoping.specs.Entries.{SymbolData}
use Rattle.oxt_scoping.specs.Meant.{declared_symbol, meant, symbol_in}
use Rattle.oxt_scoping.specs.Scoped.{Scoped}
use Rattle.oxt_grammar.specs.Places.{same_kind}
use Rattle.oxt_grammar.specs.declared.kind.Kind.{Kind}
use Rattle.oxt_grammar.specs.declared.kind.Kind.TheVariants as kind
use Rattle.oxt_told.specs.Symbols.{group_of}

-- the symbol that the node of that number means, if it is a name that is used
abbrev pub symbol_meant : Scoped → ℕ → Option SymbolData
symbol_meant s i = symbol_in s.symbols (meant s i)

-- the group that a node declares or means, by its kind
abbrev pub own_group : Scoped → Kind → ℕ → Option ℕ
own_group s k i =
    if same_kind k kind.BindingIdentifier then group_of (declared_symbol s i)
    else if same_kind k kind.IdentifierReference then group_of (symbol_meant s i)
    else None
