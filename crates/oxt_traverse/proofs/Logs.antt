-- Logs, one visit after another.
use Rattle.std.proofs.Common.{◌≡◌, refl, sym, ◌∙◌, List, [], ◌∷◌, ◌++◌, ap, append_assoc, append-nil}
use Rattle.std.specs.Prelude.{Result, Ok, Err, OnOk}
use Rattle.oxt_grammar.specs.declared.category.Category.{Category}
use Rattle.oxt_ctx.specs.Context.{Context}
use Rattle.oxt_ctx.specs.Reached.{at_place, from_place}
use Rattle.oxt_ctx.specs.Level.{IsUntouched}
use Rattle.oxt_ctx.specs.Visits.{HasLogged, Visit, by_kind, by_kind_left, entered, left, traces, visits_by}
use Rattle.oxt_ctx.specs.declared.hook.Hook.{Hook}
use Rattle.oxt_tree.specs.Doc.{Doc}

-- a fact that follows where a call succeeds
pub on_ok : {T E : Type 0} {P Q : Type 0} (r : Result T E) → (P → Q) → OnOk r P → OnOk r Q
on_ok (Ok x) f p = f p
on_ok (Err e) f p = p

-- what a log gets of the ones and then of the others
pub traces_both : (trace : Visit → List Visit) (vs ws : List Visit) → traces trace (vs ++ ws) ≡ traces trace vs ++ traces trace ws
traces_both trace [] ws = refl
traces_both trace (v ∷ vs) ws =
    ap (λ ts. trace v ++ ts) (traces_both trace vs ws) ∙ sym (append_assoc (trace v) (traces trace vs) (traces trace ws))

-- one visit
pub logged_one : (Premise : Type 0) (trace : Visit → List Visit) (a b : List Visit) (v : Visit) → b ≡ a ++ trace v → HasLogged Premise trace a b (v ∷ [])
logged_one Premise trace a b v grown = record {
  grown = λ w. grown ∙ ap (λ ts. a ++ ts) (sym (append-nil (trace v)));
}

-- none
pub logged_none : (Premise : Type 0) (trace : Visit → List Visit) (a : List Visit) → HasLogged Premise trace a a []
logged_none Premise trace a = record { grown = λ w. sym (append-nil a) }

both_grown : (trace : Visit → List Visit) (a b c vs ws : List Visit) → b ≡ a ++ traces trace vs → c ≡ b ++ traces trace ws → c ≡ a ++ traces trace (vs ++ ws)
both_grown trace a b c vs ws first second =
    second
    ∙ (ap (λ l. l ++ traces trace ws) first
    ∙ (append_assoc a (traces trace vs) (traces trace ws)
    ∙ ap (λ ts. a ++ ts) (sym (traces_both trace vs ws))))

-- the ones and then the others
pub logged_on : (Premise : Type 0) (trace : Visit → List Visit) (a b c vs ws : List Visit) → HasLogged Premise trace a b vs → HasLogged Premise trace b c ws → HasLogged Premise trace a c (vs ++ ws)
logged_on Premise trace a b c vs ws first second = record {
  grown = λ w. both_grown trace a b c vs ws (first.grown w) (second.grown w);
}

-- the same visits in other words
pub logged_as : (Premise : Type 0) (trace : Visit → List Visit) (a b vs ws : List Visit) → (Premise → vs ≡ ws) → HasLogged Premise trace a b vs → HasLogged Premise trace a b ws
logged_as Premise trace a b vs ws same logged = record {
  grown = λ w. logged.grown w ∙ ap (λ us. a ++ traces trace us) (same w);
}

-- ---- what is left

-- The log has all once it has what is left.
pub record Remains (Premise : Type 0) (trace : Visit → List Visit) (before now all rest : List Visit) : Type 0 where
  pub whole : Premise → now ++ traces trace rest ≡ before ++ traces trace all

one_less : (trace : Visit → List Visit) (a b c vs one rest : List Visit) → b ++ traces trace (one ++ rest) ≡ a ++ traces trace vs → c ≡ b ++ traces trace one → c ++ traces trace rest ≡ a ++ traces trace vs
one_less trace a b c vs one rest before grown =
    ap (λ l. l ++ traces trace rest) grown
    ∙ (append_assoc b (traces trace one) (traces trace rest)
    ∙ (ap (λ ts. b ++ ts) (sym (traces_both trace one rest))
    ∙ before))

-- less is left
pub rest_more : (Premise : Type 0) (trace : Visit → List Visit) (a b c all old one rest : List Visit) → old ≡ one ++ rest → Remains Premise trace a b all old → HasLogged Premise trace b c one → Remains Premise trace a c all rest
rest_more Premise trace a b c all old one rest split before logged = record {
  whole = λ w. one_less trace a b c all one rest (ap (λ vs. b ++ traces trace vs) (sym split) ∙ before.whole w) (logged.grown w);
}

-- nothing is left
pub rest_none : (Premise : Type 0) (trace : Visit → List Visit) (a b all rest : List Visit) → rest ≡ [] → Remains Premise trace a b all rest → HasLogged Premise trace a b all
rest_none Premise trace a b all rest none before = record {
  grown = λ w. sym (append-nil b) ∙ (ap (λ vs. b ++ traces trace vs) (sym none) ∙ before.whole w);
}

-- ---- the hooks of a node

-- before its parts: those of its kind are handed what those of its place have left
pub entered_logged : (Premise : Type 0) (trace : Visit → List Visit) (a b l : List Visit) (p : Category) (hs gs : List Hook) (d e : Doc) → (Premise → e ≡ d) → hs ≡ at_place p → visits_by gs e ≡ by_kind e → HasLogged Premise trace a b (visits_by hs d) → HasLogged Premise trace b l (visits_by gs e) → HasLogged Premise trace a l (entered p d)
entered_logged Premise trace a b l p hs gs d e same of_place of_kind first second =
    logged_on Premise trace a b l (visits_by (at_place p) d) (by_kind d)
    (logged_as Premise trace a b (visits_by hs d) (visits_by (at_place p) d) (λ w. ap (λ xs. visits_by xs d) of_place) first)
    (logged_as Premise trace b l (visits_by gs e) (by_kind d) (λ w. of_kind ∙ ap by_kind (same w)) second)

-- after its parts: those of its place are handed what those of its kind have left
pub left_logged : (Premise : Type 0) (trace : Visit → List Visit) (a b l : List Visit) (p : Category) (hs gs : List Hook) (d e : Doc) → (Premise → e ≡ d) → visits_by hs d ≡ by_kind_left d → gs ≡ from_place p → HasLogged Premise trace a b (visits_by hs d) → HasLogged Premise trace b l (visits_by gs e) → HasLogged Premise trace a l (left p d)
left_logged Premise trace a b l p hs gs d e same of_kind of_place first second =
    logged_on Premise trace a b l (by_kind_left d) (visits_by (from_place p) d)
    (logged_as Premise trace a b (visits_by hs d) (by_kind_left d) (λ w. of_kind) first)
    (logged_as Premise trace b l (visits_by gs e) (visits_by (from_place p) d) (λ w. ap (λ xs. visits_by xs e) of_place ∙ ap (visits_by (from_place p)) (same w)) second)

-- ---- under premises

-- what holds under a premise holds under a stronger one
pub logged_under : {Premise Weaker : Type 0} (trace : Visit → List Visit) (a b vs : List Visit) → (Premise → Weaker) → HasLogged Weaker trace a b vs → HasLogged Premise trace a b vs
logged_under trace a b vs so logged = record { grown = λ s. logged.grown (so s) }

pub untouched_under : {Premise Weaker : Type 0} (d e : Doc) (a b : Context) → (Premise → Weaker) → IsUntouched Weaker d e a b → IsUntouched Premise d e a b
untouched_under d e a b so untouched = record {
  document = λ s. untouched.document (so s);
  waiting = λ s. untouched.waiting (so s);
  declarators = λ s. untouched.declarators (so s);
}

-- one step after another
pub untouched_on : (Premise : Type 0) (d e f : Doc) (a b c : Context) → IsUntouched Premise d e a b → IsUntouched Premise e f b c → IsUntouched Premise d f a c
untouched_on Premise d e f a b c first second = record {
  document = λ s. second.document s ∙ first.document s;
  waiting = λ s n. second.waiting s n ∙ first.waiting s n;
  declarators = λ s. second.declarators s ∙ first.declarators s;
}
