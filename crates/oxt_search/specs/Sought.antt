-- What a search asks of each node, with a state that is handed down.
use Rattle.std.specs.Prelude.{ℕ, Bool, true, false, Option}
use Rattle.oxt_tree.specs.declared.inside.Inside.{Inside}
use Rattle.oxt_grammar.specs.Field.{Field}
use Rattle.oxt_grammar.specs.declared.kind.Kind.{Kind}
use Rattle.oxt_tree.specs.Doc.{Doc, nil, flag, number, text, list, node, Docs}

-- In a state, a node of that kind, number and fields: what it gives, and how the search goes on inside it; and the
-- state in which a field of a node of that kind is reached, none where the field is left out.
pub record Sought (S A : Type 0) : Type 0 where
  pub at : S → Kind → ℕ → Docs → Option A
  pub inside : S → Kind → ℕ → Docs → Inside S
  pub in_field : S → Kind → Field → Option S

-- nodes may stand in the document: it is a node or a list
abbrev pub holds_nodes : Doc → Bool
holds_nodes nil = false
holds_nodes (flag b) = false
holds_nodes (number n) = false
holds_nodes (text t) = false
holds_nodes (list ds) = true
holds_nodes (node k i b e ds) = true
