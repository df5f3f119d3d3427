-- A copy of a document with other numbers.
use Rattle.std.specs.Prelude.{ℕ, ◌+◌, List, [], ◌∷◌, ◌++◌}
use Rattle.oxt_tree.specs.Doc.{Doc, nil, flag, number, text, list, node, Docs, no_docs, doc}

-- how many nodes a document has
abbrev mutual
  pub node_count : Doc → ℕ
  node_count nil = 0
  node_count (flag b) = 0
  node_count (number n) = 0
  node_count (text t) = 0
  node_count (list ds) = total_count ds
  node_count (node k i b e ds) = 1 + total_count ds

  pub total_count : Docs → ℕ
  total_count no_docs = 0
  total_count (doc d ds) = node_count d + total_count ds

-- The document with its nodes numbered from `n` on, each before its children.
abbrev mutual
  pub renumbered : Doc → ℕ → Doc
  renumbered nil n = nil
  renumbered (flag b) n = flag b
  renumbered (number m) n = number m
  renumbered (text t) n = text t
  renumbered (list ds) n = list (each_renumbered ds n)
  renumbered (node k i b e ds) n = node k n b e (each_renumbered ds (n + 1))

  pub each_renumbered : Docs → ℕ → Docs
  each_renumbered no_docs n = no_docs
  each_renumbered (doc d ds) n = doc (renumbered d n) (each_renumbered ds (n + node_count d))

-- the numbers of a document's nodes, each before those of its children
abbrev mutual
  pub numbers_in : Doc → List ℕ
  numbers_in nil = []
  numbers_in (flag b) = []
  numbers_in (number n) = []
  numbers_in (text t) = []
  numbers_in (list ds) = numbers_of_each ds
  numbers_in (node k i b e ds) = i ∷ numbers_of_each ds

  pub numbers_of_each : Docs → List ℕ
  numbers_of_each no_docs = []
  numbers_of_each (doc d ds) = numbers_in d ++ numbers_of_each ds
