-- The numbers of the nodes of a document.
use Rattle.std.specs.Prelude.{ℕ, ◌+◌}
use Rattle.oxt_tree.specs.Doc.{Doc, nil, flag, number, text, list, node, Docs, no_docs, doc}

-- The document with its nodes numbered from `n` on, each before those in it, and the number after the last one.
abbrev mutual
  pub numbered : Doc → ℕ → Doc × ℕ
  numbered nil n = (nil, n)
  numbered (flag b) n = (flag b, n)
  numbered (number x) n = (number x, n)
  numbered (text t) n = (text t, n)
  numbered (list ds) n = (list (each_numbered ds n).0, (each_numbered ds n).1)
  numbered (node k id b e ds) n = (node k n b e (each_numbered ds (n + 1)).0, (each_numbered ds (n + 1)).1)

  pub each_numbered : Docs → ℕ → Docs × ℕ
  each_numbered no_docs n = (no_docs, n)
  each_numbered (doc d ds) n = (doc (numbered d n).0 (each_numbered ds (numbered d n).1).0, (each_numbered ds (numbered d n).1).1)

-- The document with 0 for the number of each node: two documents that differ in numbers alone have this in common.
abbrev mutual
  pub unnumbered : Doc → Doc
  unnumbered nil = nil
  unnumbered (flag b) = flag b
  unnumbered (number n) = number n
  unnumbered (text t) = text t
  unnumbered (list ds) = list (each_unnumbered ds)
  unnumbered (node k id b e ds) = node k 0 b e (each_unnumbered ds)

  pub each_unnumbered : Docs → Docs
  each_unnumbered no_docs = no_docs
  each_unnumbered (doc d ds) = doc (unnumbered d) (each_unnumbered ds)
