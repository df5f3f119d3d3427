-- Walks over the parts of a list, one after the other.
use Rattle.std.proofs.Common.{◌≡◌, refl, sym, ◌∙◌, ℕ, zero, suc, ◌+◌, ◌<◌, ◌≤◌, List, [], ◌∷◌, ◌++◌, length, map, drop, get_or, min, ap, subst, append-nil, arith, add-one}
use Rattle.std.proofs.Math.ListN.{set}
use Rattle.std.proofs.Math.Seq.{drop-cons}
use Rattle.oxt_grammar.specs.Field.{Field, row_view}
use Rattle.oxt_grammar.specs.declared.category.Category.{Category}
use Rattle.oxt_grammar.specs.declared.holds.Row.{Row}
use Rattle.oxt_names.proofs.Lists.{drop_at, drop_end}
use Rattle.oxt_tree.specs.Doc.{Doc, Docs, doc}
use Rattle.oxt_tree.specs.View.{docs_in, part_doc}
use Rattle.oxt_tree.specs.declared.tree.Part.{Part}
use Rattle.oxt_visit.proofs.Called.{both_grown}
use Rattle.oxt_visit.proofs.Rests.{drop_set}
use Rattle.oxt_visit.specs.Calls.{Call, HasCalled, traces}
use Rattle.oxt_visit.specs.Hooks.{Hooks}
use Rattle.oxt_visit.specs.Place.{place_of}
use Rattle.oxt_visit.specs.Walks.{Walks, WalksElements, WalksField, WalksFields, an_element, a_field, no_element, no_field, no_row}

-- the documents behind those of the parts before the place
abbrev pub behind : ℕ → List Part → Docs → Docs
behind zero ps ds = ds
behind (suc i) [] ds = ds
behind (suc i) (p ∷ ps) ds = doc (part_doc p) (behind i ps ds)

-- behind the first are the others
pub behind_rest : (i : ℕ) (ps : List Part) → behind i ps (docs_in (drop i ps)) ≡ docs_in ps
behind_rest zero ps = refl
behind_rest (suc i) [] = refl
behind_rest (suc i) (p ∷ ps) = ap (doc (part_doc p)) (behind_rest i ps)

behind_suc : (i : ℕ) (ps : List Part) (q : Part) (ds : Docs) → i < length ps → behind i ps (doc (part_doc q) ds) ≡ behind (suc i) (set ps i q) ds
behind_suc i [] q ds lt = absurd (omega arith)
behind_suc zero (p ∷ ps) q ds lt = refl
behind_suc (suc i) (p ∷ ps) q ds lt = ap (doc (part_doc p)) (behind_suc i ps q ds (omega arith))

-- one part further
behind_set : (i : ℕ) (ps : List Part) (q : Part) (ds : Docs) → i < length ps → behind i ps (doc (part_doc q) ds) ≡ behind (i + 1) (set ps i q) ds
behind_set i ps q ds lt = rw add-one (behind_suc i ps q ds lt)

-- Whatever calls the walk of what is left owes, and whatever it leaves, with them the whole is walked.
pub record Goes (trace : Call → List Call) (before now : List Call) (Rest Whole : List Call → Docs → Type 0) (front : Docs → Docs) : Type 0 where
  pub whole : (cs : List Call) (es : Docs) → Rest cs es → HasCalled trace before (now ++ traces trace cs) (λ all. Whole all (front es))

-- nothing is walked yet
pub goes_first : (trace : Call → List Call) (a : List Call) (Whole : List Call → Docs → Type 0) → Goes trace a a Whole Whole (λ es. es)
goes_first trace a Whole = record { whole = λ cs es walk. record { calls = cs; owed = walk; grown = refl } }

moved : (trace : Call → List Call) (b c one ct : List Call) → c ≡ b ++ traces trace one → c ++ traces trace ct ≡ b ++ traces trace (one ++ ct)
moved trace b c one ct grown = both_grown trace b c (c ++ traces trace ct) one ct grown refl

-- one part is walked
pub goes_on : (trace : Call → List Call) (a b c : List Call) (One : List Call → Type 0) (Rest Later Whole : List Call → Docs → Type 0) (next front further : Docs → Docs) → ((cs ct : List Call) (es : Docs) → One cs → Later ct es → Rest (cs ++ ct) (next es)) → ((es : Docs) → front (next es) ≡ further es) → HasCalled trace b c One → Goes trace a b Rest Whole front → Goes trace a c Later Whole further
goes_on trace a b c One Rest Later Whole next front further join same one before = record {
  whole = λ ct es later.
      let called = before.whole (one.calls ++ ct) (next es) (join one.calls ct es one.owed later) in
      record {
        calls = called.calls;
        owed = subst (λ fs. Whole called.calls fs) (same es) called.owed;
        grown = moved trace b c one.calls ct one.grown ∙ called.grown;
      };
}

-- all are
pub goes_end : (trace : Call → List Call) (a b : List Call) (Rest Whole : List Call → Docs → Type 0) (front : Docs → Docs) (es fs : Docs) → Rest [] es → front es ≡ fs → Goes trace a b Rest Whole front → HasCalled trace a b (λ cs. Whole cs fs)
goes_end trace a b Rest Whole front es fs last same before =
    let called = before.whole [] es last in
    record {
      calls = called.calls;
      owed = subst (λ gs. Whole called.calls gs) same called.owed;
      grown = sym (append-nil b) ∙ called.grown;
    }

-- ---- elements

-- the elements from the place on are left to walk
abbrev pub ElementsGo : (trace : Call → List Call) → Hooks → (Doc → Doc → Type 0) → List Call → List Call → Category → Docs → ℕ → List Part → Type 0
ElementsGo trace h Leaves a b p ds i ps = Goes trace a b (WalksElements h Leaves p (docs_in (drop i ps))) (WalksElements h Leaves p ds) (behind i ps)

pub elements_on : (trace : Call → List Call) (h : Hooks) (Leaves : Doc → Doc → Type 0) (a b c : List Call) (place : Category) (ds : Docs) (ps : List Part) (i : ℕ) (p q : Part) → i < length ps → p ≡ get_or ps i p → HasCalled trace b c (λ cs. Walks h Leaves place (part_doc p) cs (part_doc q)) → ElementsGo trace h Leaves a b place ds i ps → ElementsGo trace h Leaves a c place ds (i + 1) (set ps i q)
elements_on trace h Leaves a b c place ds ps i p q lt here one before =
    let split : docs_in (drop i ps) ≡ doc (part_doc p) (docs_in (drop (i + 1) (set ps i q))) = ap docs_in (drop_at ps i p lt here) ∙ ap (λ qs. doc (part_doc p) (docs_in qs)) (sym (drop_set ps i q)) in
    goes_on trace a b c (λ cs. Walks h Leaves place (part_doc p) cs (part_doc q)) (WalksElements h Leaves place (docs_in (drop i ps))) (WalksElements h Leaves place (docs_in (drop (i + 1) (set ps i q)))) (WalksElements h Leaves place ds) (doc (part_doc q)) (behind i ps) (behind (i + 1) (set ps i q))
    (λ cs ct es walk later. subst (λ xs. WalksElements h Leaves place xs (cs ++ ct) (doc (part_doc q) es)) (sym split) (an_element place (part_doc p) (part_doc q) (docs_in (drop (i + 1) (set ps i q))) es cs ct walk later))
    (λ es. behind_set i ps q es lt)
    one before

pub elements_end : (trace : Call → List Call) (h : Hooks) (Leaves : Doc → Doc → Type 0) (a b : List Call) (place : Category) (ds : Docs) (ps : List Part) (i : ℕ) → length ps ≤ i → ElementsGo trace h Leaves a b place ds i ps → HasCalled trace a b (λ cs. WalksElements h Leaves place ds cs (docs_in ps))
elements_end trace h Leaves a b place ds ps i last before =
    goes_end trace a b (WalksElements h Leaves place (docs_in (drop i ps))) (WalksElements h Leaves place ds) (behind i ps) (docs_in (drop i ps)) (docs_in ps)
    (subst (λ qs. WalksElements h Leaves place (docs_in qs) [] (docs_in qs)) (sym (drop_end ps i last)) (no_element place))
    (behind_rest i ps)
    before

-- ---- fields

pub row_at : (rs : List Row) (i : ℕ) (r : Row) → i < length rs → drop i rs ≡ get_or rs i r ∷ drop (i + 1) rs
row_at rs i r lt = rw add-one (drop-cons rs i r lt)

-- the fields from the place on are left to walk
abbrev pub FieldsGo : (trace : Call → List Call) → Hooks → (Doc → Doc → Type 0) → List Call → List Call → List Row → Docs → ℕ → List Part → Type 0
FieldsGo trace h Leaves a b rs ds i ps = Goes trace a b (WalksFields h Leaves (map row_view (drop i rs)) (docs_in (drop i ps))) (WalksFields h Leaves (map row_view rs) ds) (behind i ps)

pub fields_on : (trace : Call → List Call) (h : Hooks) (Leaves : Doc → Doc → Type 0) (a b c : List Call) (rs : List Row) (ds : Docs) (ps : List Part) (i : ℕ) (r : Row) (p q : Part) → i < length rs → i < length ps → p ≡ get_or ps i p → HasCalled trace b c (λ cs. WalksField h Leaves (place_of (get_or rs i r).holds) (part_doc p) cs (part_doc q)) → FieldsGo trace h Leaves a b rs ds i ps → FieldsGo trace h Leaves a c rs ds (i + 1) (set ps i q)
fields_on trace h Leaves a b c rs ds ps i r p q lt_rs lt_ps here one before =
    let split : docs_in (drop i ps) ≡ doc (part_doc p) (docs_in (drop (i + 1) (set ps i q))) = ap docs_in (drop_at ps i p lt_ps here) ∙ ap (λ qs. doc (part_doc p) (docs_in qs)) (sym (drop_set ps i q)) in
    let rows : map row_view (drop i rs) ≡ row_view (get_or rs i r) ∷ map row_view (drop (i + 1) rs) = ap (map row_view) (row_at rs i r lt_rs) in
    let later_rows = map row_view (drop (i + 1) rs) in
    let later_docs = docs_in (drop (i + 1) (set ps i q)) in
    goes_on trace a b c (λ cs. WalksField h Leaves (place_of (get_or rs i r).holds) (part_doc p) cs (part_doc q)) (WalksFields h Leaves (map row_view (drop i rs)) (docs_in (drop i ps))) (WalksFields h Leaves later_rows later_docs) (WalksFields h Leaves (map row_view rs) ds) (doc (part_doc q)) (behind i ps) (behind (i + 1) (set ps i q))
    (λ cs ct es walk later. subst (λ fs. WalksFields h Leaves fs (docs_in (drop i ps)) (cs ++ ct) (doc (part_doc q) es)) (sym rows) (subst (λ xs. WalksFields h Leaves (row_view (get_or rs i r) ∷ later_rows) xs (cs ++ ct) (doc (part_doc q) es)) (sym split) (a_field (row_view (get_or rs i r)) later_rows (part_doc p) (part_doc q) later_docs es cs ct walk later)))
    (λ es. behind_set i ps q es lt_ps)
    one before

no_field_over : (h : Hooks) (Leaves : Doc → Doc → Type 0) (rs : List Row) (ps : List Part) (i : ℕ) → i ≡ min (length rs) (length ps) → WalksFields h Leaves (map row_view (drop i rs)) (docs_in (drop i ps)) [] (docs_in (drop i ps))
no_field_over h Leaves [] ps zero e = no_row (docs_in ps)
no_field_over h Leaves [] ps (suc i) e = absurd (omega arith)
no_field_over h Leaves (r ∷ rs) [] zero e = no_field (map row_view (r ∷ rs))
no_field_over h Leaves (r ∷ rs) [] (suc i) e = absurd (omega arith)
no_field_over h Leaves (r ∷ rs) (p ∷ ps) zero e = absurd (omega arith)
no_field_over h Leaves (r ∷ rs) (p ∷ ps) (suc i) e = no_field_over h Leaves rs ps i (omega arith)

pub fields_end : (trace : Call → List Call) (h : Hooks) (Leaves : Doc → Doc → Type 0) (a b : List Call) (fs : List Field) (rs : List Row) (ds : Docs) (ps : List Part) (i : ℕ) → map row_view rs ≡ fs → i ≡ min (length rs) (length ps) → FieldsGo trace h Leaves a b rs ds i ps → HasCalled trace a b (λ cs. WalksFields h Leaves fs ds cs (docs_in ps))
fields_end trace h Leaves a b fs rs ds ps i rows last before =
    subst (λ gs. HasCalled trace a b (λ cs. WalksFields h Leaves gs ds cs (docs_in ps))) rows
    (goes_end trace a b (WalksFields h Leaves (map row_view (drop i rs)) (docs_in (drop i ps))) (WalksFields h Leaves (map row_view rs) ds) (behind i ps) (docs_in (drop i ps)) (docs_in ps) (no_field_over h Leaves rs ps i last) (behind_rest i ps) before)
