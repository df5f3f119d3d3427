-- A node with one of its fields changed.
use Rattle.std.specs.Prelude.{ℕ, zero, suc, List, Option, None, Some}
use Rattle.std.specs.List.{position_from}
use Rattle.std.specs.Str.{bytes_eq}
use Rattle.oxt_grammar.specs.Rows.{row_of}
use Rattle.oxt_grammar.specs.declared.kind.Kind.{Kind}
use Rattle.oxt_tree.specs.Doc.{Doc, nil, flag, number, text, list, node, Docs, no_docs, doc}

-- the documents with the one at that place changed, if there is one
abbrev pub changed_at : ℕ → (Doc → Doc) → Docs → Docs
changed_at n f no_docs = no_docs
changed_at zero f (doc d ds) = doc (f d) ds
changed_at (suc n) f (doc d ds) = doc d (changed_at n f ds)

-- the same, where there is a place
abbrev pub changed_where : Option ℕ → (Doc → Doc) → Docs → Docs
changed_where None f ds = ds
changed_where (Some n) f ds = changed_at n f ds

-- the fields of a node of that kind with the one of that name changed
abbrev pub changed_in : List ℕ → (Doc → Doc) → Kind → Docs → Docs
changed_in name f k ds = changed_where (position_from (λ r. bytes_eq r.name name) 0 (row_of k)) f ds

-- a node with that in its field of that name
abbrev pub with_field : List ℕ → Doc → Doc → Doc
with_field name x nil = nil
with_field name x (flag b) = flag b
with_field name x (number m) = number m
with_field name x (text t) = text t
with_field name x (list ds) = list ds
with_field name x (node k i b e ds) = node k i b e (changed_in name (λ _. x) k ds)
