-- Lists of which one element becomes lighter.
use Rattle.std.proofs.Common.{◌≡◌, ℕ, zero, suc, ◌<◌, ◌≤◌, List, [], ◌∷◌, length, get_or, ap, arith}
use Rattle.std.proofs.Math.ListN.{set}
use Rattle.oxt_grammar.specs.declared.kind.Kind.{Kind}
use Rattle.oxt_lower.specs.Spare.{IsNoHeavier}
use Rattle.oxt_tree.specs.Doc.{list}
use Rattle.oxt_tree.specs.View.{docs_in, part_doc}
use Rattle.oxt_tree.specs.declared.tree.Part.{Part}
use Rattle.oxt_visit.specs.Weight.{weight, weights}

weights_set : (spare : Kind → ℕ → ℕ) (ps : List Part) (i : ℕ) (p q : Part) → i < length ps → p ≡ get_or ps i p → weight spare (part_doc q) ≤ weight spare (part_doc p) → weights spare (docs_in (set ps i q)) ≤ weights spare (docs_in ps)
weights_set spare [] i p q lt here le = absurd (omega arith)
weights_set spare (r ∷ ps) zero p q lt here le = let e = ap (λ x. weight spare (part_doc x)) here in omega arith
weights_set spare (r ∷ ps) (suc i) p q lt here le = let rest = weights_set spare ps i p q (omega arith) here le in omega arith

-- a list gets no heavier
pub lighter_set : (ps qs : List Part) (i : ℕ) (p q : Part) → i < length qs → p ≡ get_or qs i p → IsNoHeavier (part_doc p) (part_doc q) → IsNoHeavier (list (docs_in ps)) (list (docs_in qs)) → IsNoHeavier (list (docs_in ps)) (list (docs_in (set qs i q)))
lighter_set ps qs i p q lt here le before spare =
    let one = weights_set spare qs i p q lt here (le spare) in
    let all = before spare in omega arith
