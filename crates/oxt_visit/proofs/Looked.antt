-- What is noted of the parts of a list, one after the other.
use Rattle.std.proofs.Common.{◌≡◌, refl, sym, ◌∙◌, ℕ, zero, suc, ◌+◌, ◌<◌, ◌≤◌, List, [], ◌∷◌, ◌++◌, length, map, drop, get_or, min, ap, arith}
use Rattle.oxt_grammar.specs.Field.{Field, row_view}
use Rattle.oxt_grammar.specs.declared.category.Category.{Category}
use Rattle.oxt_grammar.specs.declared.holds.Row.{Row}
use Rattle.oxt_names.proofs.Lists.{drop_at, drop_end}
use Rattle.oxt_tree.specs.Doc.{Doc, Docs, no_docs, doc}
use Rattle.oxt_tree.specs.View.{docs_in, part_doc}
use Rattle.oxt_tree.specs.declared.tree.Part.{Part}
use Rattle.oxt_visit.proofs.Going.{row_at}
use Rattle.oxt_visit.specs.Calls.{Call, noted}
use Rattle.oxt_visit.specs.Hooks.{Hooks}
use Rattle.oxt_visit.specs.Place.{place_of}
use Rattle.oxt_visit.specs.Visits.{of_field, visits, visits_each, visits_fields}

-- the ones and then the others
noted_both : {A : Type 0} (note : A → Call → A) (a : A) (cs ct : List Call) → noted note a (cs ++ ct) ≡ noted note (noted note a cs) ct
noted_both note a [] ct = refl
noted_both note a (c ∷ cs) ct = noted_both note (note a c) cs ct

-- the first calls are noted, and the others are left
noted_on : {A : Type 0} (note : A → Call → A) (a b : A) (cs ct cu : List Call) → b ≡ noted note a cs → cu ≡ cs ++ ct → noted note b ct ≡ noted note a cu
noted_on note a b cs ct cu one split =
    ap (λ x. noted note x ct) one
    ∙ (sym (noted_both note a cs ct)
    ∙ ap (noted note a) (sym split))

-- ---- elements

-- what is noted once the elements from the place on are looked at
abbrev pub with_elements : {A : Type 0} → (A → Call → A) → Hooks → Category → List Part → ℕ → A → A
with_elements note h p ps i a = noted note a (visits_each h (docs_in (drop i ps)) p)

pub elements_looked : {A : Type 0} (note : A → Call → A) (h : Hooks) (a b : A) (place : Category) (ps : List Part) (i : ℕ) (p : Part) → i < length ps → p ≡ get_or ps i p → b ≡ noted note a (visits h (part_doc p) place) → with_elements note h place ps (i + 1) b ≡ with_elements note h place ps i a
elements_looked note h a b place ps i p lt here one =
    noted_on note a b (visits h (part_doc p) place) (visits_each h (docs_in (drop (i + 1) ps)) place) (visits_each h (docs_in (drop i ps)) place) one
    (ap (λ qs. visits_each h (docs_in qs) place) (drop_at ps i p lt here))

pub elements_over : {A : Type 0} (note : A → Call → A) (h : Hooks) (a : A) (place : Category) (ps : List Part) (i : ℕ) → length ps ≤ i → a ≡ with_elements note h place ps i a
elements_over note h a place ps i last = ap (λ qs. noted note a (visits_each h (docs_in qs) place)) (sym (drop_end ps i last))

-- ---- fields

-- what is noted once the fields from the place on are looked at
abbrev pub with_fields : {A : Type 0} → (A → Call → A) → Hooks → List Row → List Part → ℕ → A → A
with_fields note h rs ps i a = noted note a (visits_fields h (docs_in (drop i ps)) (map row_view (drop i rs)))

pub fields_looked : {A : Type 0} (note : A → Call → A) (h : Hooks) (a b : A) (rs : List Row) (ps : List Part) (i : ℕ) (r : Row) (p : Part) → i < length rs → i < length ps → p ≡ get_or ps i p → b ≡ noted note a (of_field (place_of (get_or rs i r).holds) (visits h (part_doc p))) → with_fields note h rs ps (i + 1) b ≡ with_fields note h rs ps i a
fields_looked note h a b rs ps i r p lt_rs lt_ps here one =
    noted_on note a b (of_field (place_of (get_or rs i r).holds) (visits h (part_doc p)))
    (visits_fields h (docs_in (drop (i + 1) ps)) (map row_view (drop (i + 1) rs)))
    (visits_fields h (docs_in (drop i ps)) (map row_view (drop i rs)))
    one
    (ap (λ qs. visits_fields h (docs_in qs) (map row_view (drop i rs))) (drop_at ps i p lt_ps here)
    ∙ ap (λ qs. visits_fields h (doc (part_doc p) (docs_in (drop (i + 1) ps))) (map row_view qs)) (row_at rs i r lt_rs))

no_field_left : (h : Hooks) (rs : List Row) (ps : List Part) (i : ℕ) → i ≡ min (length rs) (length ps) → [] ≡ visits_fields h (docs_in (drop i ps)) (map row_view (drop i rs))
no_field_left h [] [] zero last = refl
no_field_left h [] [] (suc i) last = absurd (omega arith)
no_field_left h [] (p ∷ ps) zero last = refl
no_field_left h [] (p ∷ ps) (suc i) last = absurd (omega arith)
no_field_left h (r ∷ rs) [] zero last = refl
no_field_left h (r ∷ rs) [] (suc i) last = absurd (omega arith)
no_field_left h (r ∷ rs) (p ∷ ps) zero last = absurd (omega arith)
no_field_left h (r ∷ rs) (p ∷ ps) (suc i) last = no_field_left h rs ps i (omega arith)

pub fields_over : {A : Type 0} (note : A → Call → A) (h : Hooks) (a : A) (rs : List Row) (ps : List Part) (i : ℕ) → i ≡ min (length rs) (length ps) → a ≡ with_fields note h rs ps i a
fields_over note h a rs ps i last = ap (noted note a) (no_field_left h rs ps i last)
