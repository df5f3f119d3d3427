-- What the table says of the symbols that nodes declare.
use Rattle.std.specs.Prelude.{ℕ, List, [], ◌∷◌, Option, None, Some, codes}
use Rattle.oxt_grammar.specs.declared.kind.Kind.{Kind}
use Rattle.oxt_scoping.specs.Entries.{SymbolData}
use Rattle.oxt_scoping.specs.Meant.{declared_symbol}
use Rattle.oxt_scoping.specs.Scoped.{Scoped}
use Rattle.oxt_scoping.specs.declared.entry.Redeclaration.{Redeclaration}
use Rattle.oxt_tree.specs.Doc.{Doc, node, Docs}
use Rattle.oxt_tree.specs.Fields.{named}

-- the number of the first node that declares a name
abbrev pub first_node : List Redeclaration → Option ℕ
first_node [] = None
first_node (d ∷ ds) = Some d.node.0

-- the number of the first node that declares the symbol, by which its group goes
abbrev pub group_of : Option SymbolData → Option ℕ
group_of None = None
group_of (Some y) = first_node y.declarations

-- the number of a node
abbrev pub number_in : Doc → Option ℕ
number_in (node k i b e ds) = Some i
number_in d = None

-- the symbol that a node declares, if it is one
abbrev pub symbol_in : Scoped → Option ℕ → Option SymbolData
symbol_in s None = None
symbol_in s (Some i) = declared_symbol s i

-- the symbol of the name that a declaration has
abbrev pub named_symbol : Scoped → Kind → Docs → Option SymbolData
named_symbol s k ds = symbol_in s (number_in (named (codes "id") k ds))
