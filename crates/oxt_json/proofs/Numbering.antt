-- Numbering changes numbers alone.
use Rattle.std.proofs.Common.{◌≡◌, refl, ap, ℕ, ◌+◌}
use Rattle.oxt_json.specs.Numbered.{numbered, each_numbered, unnumbered, each_unnumbered}
use Rattle.oxt_tree.specs.Doc.{Doc, nil, flag, number, text, list, node, Docs, no_docs, doc}

mutual
  pub numbering : (d : Doc) (n : ℕ) → unnumbered (numbered d n).0 ≡ unnumbered d
  numbering nil n = refl
  numbering (flag b) n = refl
  numbering (number x) n = refl
  numbering (text t) n = refl
  numbering (list ds) n = ap list (numbering_each ds n)
  numbering (node k id b e ds) n = ap (node k 0 b e) (numbering_each ds (n + 1))

  pub numbering_each : (ds : Docs) (n : ℕ) → each_unnumbered (each_numbered ds n).0 ≡ each_unnumbered ds
  numbering_each no_docs n = refl
  numbering_each (doc d ds) n = rw (numbering d n, numbering_each ds (numbered d n).1) refl
