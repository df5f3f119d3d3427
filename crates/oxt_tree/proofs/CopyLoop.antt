-- Copies of a list, an element at a time.
use Rattle.std.proofs.Common.{ℕ, ◌+◌, ◌<◌, ◌≤◌, ◌≡◌, refl, sym, ap, ◌∙◌, List, [], ◌∷◌, ◌++◌, length, drop, get_or}
use Rattle.oxt_names.proofs.Lists.{drop_at, drop_end}
use Rattle.oxt_tree.specs.Copies.{renumbered, each_renumbered, node_count, total_count}
use Rattle.oxt_tree.specs.Doc.{Docs, doc, no_docs}
use Rattle.oxt_tree.specs.View.{docs_in, part_doc}
use Rattle.oxt_tree.specs.declared.tree.Part.{Part}

-- the documents of the parts, and behind them these
abbrev pub docs_then : List Part → Docs → Docs
docs_then [] ds = ds
docs_then (p ∷ ps) ds = doc (part_doc p) (docs_then ps ds)

docs_then_push : (ps : List Part) (p : Part) (ds : Docs) → docs_then (ps ++ p ∷ []) ds ≡ docs_then ps (doc (part_doc p) ds)
docs_then_push [] p ds = refl
docs_then_push (q ∷ qs) p ds = ap (doc (part_doc q)) (docs_then_push qs p ds)

docs_then_none : (ps : List Part) → docs_then ps no_docs ≡ docs_in ps
docs_then_none [] = refl
docs_then_none (p ∷ ps) = ap (doc (part_doc p)) (docs_then_none ps)

pub copies_end : (copies ps : List Part) (i n : ℕ) → length ps ≤ i → docs_then copies (each_renumbered (docs_in (drop i ps)) n) ≡ docs_in copies
copies_end copies ps i n h = ap (λ qs. docs_then copies (each_renumbered (docs_in qs) n)) (drop_end ps i h) ∙ docs_then_none copies

pub counts_end : (ps : List Part) (i : ℕ) → length ps ≤ i → total_count (docs_in (drop i ps)) ≡ 0
counts_end ps i h = ap (λ qs. total_count (docs_in qs)) (drop_end ps i h)

-- One more copy.
pub copies_next : (copies ps : List Part) (i n m : ℕ) (p q : Part) → i < length ps → p ≡ get_or ps i p → part_doc q ≡ renumbered (part_doc p) n → m ≡ n + node_count (part_doc p) → docs_then copies (each_renumbered (docs_in (drop i ps)) n) ≡ docs_then (copies ++ q ∷ []) (each_renumbered (docs_in (drop (i + 1) ps)) m)
copies_next copies ps i n m p q h e copied used =
    ap (λ qs. docs_then copies (each_renumbered (docs_in qs) n)) (drop_at ps i p h e)
    ∙ ap (λ d. docs_then copies (doc d (each_renumbered (docs_in (drop (i + 1) ps)) (n + node_count (part_doc p))))) (sym copied)
    ∙ ap (λ k. docs_then copies (doc (part_doc q) (each_renumbered (docs_in (drop (i + 1) ps)) k))) (sym used)
    ∙ sym (docs_then_push copies q (each_renumbered (docs_in (drop (i + 1) ps)) m))

pub counts_next : (ps : List Part) (i : ℕ) (p : Part) → i < length ps → p ≡ get_or ps i p → total_count (docs_in (drop i ps)) ≡ node_count (part_doc p) + total_count (docs_in (drop (i + 1) ps))
counts_next ps i p h e = ap (λ qs. total_count (docs_in qs)) (drop_at ps i p h e)

-- the steps of the loop over a list
pub ruleset copy_steps = (copies_next, copies_end, counts_next, counts_end)
