-- What documents weigh.
use Rattle.std.specs.Prelude.{ℕ, suc, ◌+◌}
use Rattle.oxt_grammar.specs.declared.kind.Kind.{Kind}
use Rattle.oxt_tree.specs.Doc.{Doc, nil, flag, number, text, list, node, Docs, no_docs, doc}

abbrev mutual
  -- The weight of a document, where each node has something to spare by its kind and number: a node weighs one and that
  -- more than its fields, and a list one more than its elements.
  pub weight : (Kind → ℕ → ℕ) → Doc → ℕ
  weight spare nil = 0
  weight spare (flag b) = 0
  weight spare (number n) = 0
  weight spare (text t) = 0
  weight spare (list ds) = suc (weights spare ds)
  weight spare (node k n b e ds) = suc (spare k n + weights spare ds)

  -- what several weigh together
  pub weights : (Kind → ℕ → ℕ) → Docs → ℕ
  weights spare no_docs = 0
  weights spare (doc d ds) = weight spare d + weights spare ds
