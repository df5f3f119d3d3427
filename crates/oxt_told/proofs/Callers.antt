-- Elements of classes, one after another, in front of which keys wait.
use Rattle.std.proofs.Common.{◌≡◌, ◌∙◌, refl, sym, ap, arith, ℕ, ◌+◌, ◌<◌, ◌≤◌, List, length, get_or, drop, Bool, true, false, cond}
use Rattle.std.specs.Prelude.{◌-◌, count_by}
use Rattle.std.proofs.lemmas.List.Recursion.{is_count_by}
use Rattle.oxt_facts.specs.Told.{Tellings}
use Rattle.oxt_fields.specs.Rules.{Rules}
use Rattle.oxt_told.proofs.Loops.{all_told-append}
use Rattle.oxt_told.specs.Calls.{Common, element_told, elements_told, is_last, takers, takers_behind, takes_keys, waits_behind}
use Rattle.oxt_told.specs.Classes.{is_gaining}
use Rattle.oxt_told.specs.Source.{all_told}
use Rattle.oxt_names.proofs.Lists.{drop_at, drop_end}
use Rattle.oxt_tree.specs.Doc.{Docs}
use Rattle.oxt_tree.specs.View.{docs_in, part_doc}
use Rattle.oxt_tree.specs.declared.tree.Part.{Part}

-- ---- how many take keys

pub takers_counted : (ps : List Part) → takers (docs_in ps) ≡ count_by (λ p. takes_keys (part_doc p)) ps
takers_counted = is_count_by (λ ps. takers (docs_in ps)) (λ p. takes_keys (part_doc p)) refl (λ p ps. refl)

-- behind one of them, as many as are left
pub takers_left : (ps : List Part) (i : ℕ) (p : Part) (n m : ℕ) → i < length ps → p ≡ get_or ps i p → n ≡ takers (docs_in (drop i ps)) → m ≡ takers_behind (part_doc p) n → m ≡ takers (docs_in (drop (i + 1) ps))
takers_left ps i p n m lt here is behind =
    behind ∙ ap (takers_behind (part_doc p)) (is ∙ ap (λ qs. takers (docs_in qs)) (drop_at ps i p lt here)) ∙ by (takes_keys (part_doc p)) (takers (docs_in (drop (i + 1) ps)))
  where
    by : (b : Bool) (k : ℕ) → cond b (cond b (1 + k) k - 1) (cond b (1 + k) k) ≡ k
    by true k = omega arith
    by false k = refl

-- ---- what is told of them

pub element_more : (r : Rules) (o : Common) (ts new : Tellings) (ps : List Part) (i : ℕ) (p : Part) (waiting after last : Bool) (m : ℕ) → i < length ps → p ≡ get_or ps i p
    → m ≡ takers (docs_in (drop (i + 1) ps)) → last ≡ is_last o.has_front m
    → new ≡ all_told ts (element_told r o waiting last (part_doc p)) → after ≡ waits_behind r o.hoists waiting (part_doc p)
    → all_told ts (elements_told r o waiting (docs_in (drop i ps))) ≡ all_told new (elements_told r o after (docs_in (drop (i + 1) ps)))
element_more r o ts new ps i p waiting after last m lt here left is told waits =
    ap (λ qs. all_told ts (elements_told r o waiting (docs_in qs))) (drop_at ps i p lt here)
    ∙ all_told-append ts (element_told r o waiting (is_last o.has_front (takers (docs_in (drop (i + 1) ps)))) (part_doc p)) (elements_told r o (waits_behind r o.hoists waiting (part_doc p)) (docs_in (drop (i + 1) ps)))
    ∙ ap (λ b. all_told (all_told ts (element_told r o waiting b (part_doc p))) (elements_told r o (waits_behind r o.hoists waiting (part_doc p)) (docs_in (drop (i + 1) ps)))) (sym (is ∙ ap (is_last o.has_front) left))
    ∙ ap (λ x. all_told x (elements_told r o (waits_behind r o.hoists waiting (part_doc p)) (docs_in (drop (i + 1) ps)))) (sym told)
    ∙ ap (λ b. all_told new (elements_told r o b (docs_in (drop (i + 1) ps)))) (sym waits)

pub element_done : (r : Rules) (o : Common) (waiting : Bool) (ts : Tellings) (ps : List Part) (i : ℕ) → length ps ≤ i → all_told ts (elements_told r o waiting (docs_in (drop i ps))) ≡ ts
element_done r o waiting ts ps i le = ap (λ qs. all_told ts (elements_told r o waiting (docs_in qs))) (drop_end ps i le)

-- the same elements, which have the same in common
pub elements_by : (r : Rules) (o o' : Common) (es es' : Docs) (ts new : Tellings) → o ≡ o' → es ≡ es' → new ≡ all_told ts (elements_told r o false es) → new ≡ all_told ts (elements_told r o' false es')
elements_by r o o' es es' ts new same are told = told ∙ ap (λ x. all_told ts (elements_told r x false es)) same ∙ ap (λ xs. all_told ts (elements_told r o' false xs)) are

-- a class with the same elements
pub gaining_by : (r : Rules) (es es' : Docs) (b : Bool) → es ≡ es' → b ≡ is_gaining r es → b ≡ is_gaining r es'
gaining_by r es es' b are is = is ∙ ap (is_gaining r) are
