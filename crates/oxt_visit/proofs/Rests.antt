-- Lists of which one element is visited.
use Rattle.std.proofs.Common.{◌≡◌, refl, ◌∙◌, ℕ, zero, suc, ◌+◌, ◌<◌, ◌≤◌, List, [], ◌∷◌, length, drop, get_or, ap, arith, add-one}
use Rattle.std.proofs.Math.ListN.{set}
use Rattle.oxt_grammar.specs.declared.kind.Kind.{Kind}
use Rattle.oxt_names.proofs.Lists.{drop_at}
use Rattle.oxt_tree.specs.Doc.{Doc}
use Rattle.oxt_tree.specs.View.{docs_in, part_doc}
use Rattle.oxt_tree.specs.declared.tree.Part.{Part}
use Rattle.oxt_visit.specs.Reading.{readings}
use Rattle.oxt_visit.specs.Weight.{weight, weights}

-- where the reading of an element stays, those of all do
pub readings_set : {A : Type 0} (read : Doc → A) (ps : List Part) (i : ℕ) (p q : Part) → i < length ps → p ≡ get_or ps i p → read (part_doc q) ≡ read (part_doc p) → readings read (docs_in (set ps i q)) ≡ readings read (docs_in ps)
readings_set read [] i p q lt here same = absurd (omega arith)
readings_set read (r ∷ ps) zero p q lt here same = ap (λ x. x ∷ readings read (docs_in ps)) (same ∙ ap (λ x. read (part_doc x)) here)
readings_set read (r ∷ ps) (suc i) p q lt here same = ap (λ xs. read (part_doc r) ∷ xs) (readings_set read ps i p q (omega arith) here same)

drop_suc_set : {A : Type 0} (xs : List A) (i : ℕ) (y : A) → drop (suc i) (set xs i y) ≡ drop (suc i) xs
drop_suc_set [] zero y = refl
drop_suc_set [] (suc i) y = refl
drop_suc_set (x ∷ xs) zero y = refl
drop_suc_set (x ∷ xs) (suc i) y = drop_suc_set xs i y

-- behind an element that is changed all is as it was
pub drop_set : {A : Type 0} (xs : List A) (i : ℕ) (y : A) → drop (i + 1) (set xs i y) ≡ drop (i + 1) xs
drop_set xs i y = rw add-one (drop_suc_set xs i y)

-- what the elements from the place on weigh
abbrev pub rest_weighs : (Kind → ℕ → ℕ) → List Part → ℕ → ℕ
rest_weighs spare ps i = weights spare (docs_in (drop i ps))

-- an element, and those behind it
pub rest_next : (spare : Kind → ℕ → ℕ) (ps : List Part) (i : ℕ) (p : Part) → i < length ps → p ≡ get_or ps i p → rest_weighs spare ps i ≡ weight spare (part_doc p) + rest_weighs spare ps (i + 1)
rest_next spare ps i p lt here = ap (λ qs. weights spare (docs_in qs)) (drop_at ps i p lt here)

-- an element weighs no more than the rest
pub element_weighs : (spare : Kind → ℕ → ℕ) (ps : List Part) (i w : ℕ) (p : Part) → i < length ps → p ≡ get_or ps i p → rest_weighs spare ps i ≤ w → weight spare (part_doc p) ≤ w
element_weighs spare ps i w p lt here le = let e = rest_next spare ps i p lt here in omega arith

-- and those behind it no more either, whatever it becomes
pub behind_weighs : (spare : Kind → ℕ → ℕ) (ps : List Part) (i w : ℕ) (p q : Part) → i < length ps → p ≡ get_or ps i p → rest_weighs spare ps i ≤ w → rest_weighs spare (set ps i q) (i + 1) ≤ w
behind_weighs spare ps i w p q lt here le =
    let e = rest_next spare ps i p lt here in
    let s = ap (λ qs. weights spare (docs_in qs)) (drop_set ps i q) in omega arith
