-- What names mean, and which symbols they declare.
use Rattle.std.specs.Prelude.{if◌then◌else◌, Option, None}
use Rattle.oxt_grammar.specs.Places.{same_kind}
use Rattle.oxt_grammar.specs.declared.kind.Kind.TheVariants as kind
use Rattle.oxt_names.specs.declared.ids.SymbolId.{SymbolId}
use Rattle.oxt_scoping.specs.Meant.{meant}
use Rattle.oxt_scoping.specs.Scoped.{Scoped, at_node}
use Rattle.oxt_tree.specs.Doc.{Doc, node}

-- the symbol that the node means, if it is a bare name
abbrev pub meant_by : Scoped → Doc → Option SymbolId
meant_by s (node k i b e ds) = if same_kind k kind.IdentifierReference then meant s i else None
meant_by s d = None

-- the symbol that the node there declares
abbrev pub named_symbol : Scoped → Doc → Option SymbolId
named_symbol s (node k i b e ds) = at_node (record { 0 = i }) s.declared
named_symbol s d = None
