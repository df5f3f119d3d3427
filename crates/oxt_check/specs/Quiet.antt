-- Nodes of which nothing is told, whatever stands around them.
use Rattle.std.specs.Prelude.{Bool, not, ◌&&◌, ◌||◌}
use Rattle.std.specs.List.{list_any}
use Rattle.oxt_grammar.specs.Places.{same_kind}
use Rattle.oxt_grammar.specs.declared.kind.Kind.{Kind}
use Rattle.oxt_grammar.specs.declared.kind.Kind.TheVariants as kind
use Rattle.oxt_search.specs.Sought.{holds_nodes}
use Rattle.oxt_tree.specs.Doc.{Docs}
use Rattle.oxt_tree.specs.Fields.{docs_list}

-- a name that is used, that stands for itself, or that is declared
abbrev pub is_name : Kind → Bool
is_name k =
    same_kind k kind.IdentifierReference || (same_kind k kind.IdentifierName || same_kind k kind.BindingIdentifier)

-- nodes may stand in one of the documents
abbrev pub has_nodes : Docs → Bool
has_nodes ds = list_any holds_nodes (docs_list ds)

-- a name that holds no nodes
abbrev pub is_quiet : Kind → Docs → Bool
is_quiet k ds = is_name k && not (has_nodes ds)
