-- A document: the tree as contracts see it, with no sharing, no words and no memory.
use Rattle.std.specs.Prelude.{ℕ, List, [], ◌∷◌, Bool}
use Rattle.oxt_grammar.specs.declared.kind.Kind.{Kind}

mutual
  -- null, a flag, a whole number, a text, a list, or a node with its kind, number, start, end and
  -- fields
  pub data Doc : Type 0 where
    nil : Doc
    flag : Bool → Doc
    number : ℕ → Doc
    text : List ℕ → Doc
    list : Docs → Doc
    node : Kind → ℕ → ℕ → ℕ → Docs → Doc

  pub data Docs : Type 0 where
    no_docs : Docs
    doc : Doc → Docs → Docs

-- the documents of a list, as Docs
abbrev pub docs_of : List Doc → Docs
docs_of [] = no_docs
docs_of (d ∷ ds) = doc d (docs_of ds)
