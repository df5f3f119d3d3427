-- Where insertions end up.
use Rattle.std.proofs.Common.{◌≡◌, ℕ, ◌∙◌, List, [], ◌∷◌, ◌++◌, map, Bool, true, false, cond, ◌||◌, Option, None, unwrap_or, ap, refl, sym}
use Rattle.std.specs.List.{flat_map, list_any}
use Rattle.oxt_tree.specs.Doc.{Doc, nil, flag, number, text, list, node}
use Rattle.oxt_stores.specs.Insertion.{Entry, after_it, before_it, last_before}
use Rattle.oxt_injector.specs.Law.{EachAmongItsOwn, ManyGoFirstBefore, ManyGoLastAfter, OneGoesLastAfter, OneGoesLastBefore, afters, among, befores, shares_number}
use Rattle.oxt_injector.specs.Placed.{around, is_numbered, placed, waiting_for, without}
use Rattle.oxt_injector.proofs.Placing.{placed_same}

around_step : (b : Bool) (d x : Doc) (rest bs us rs : List Doc) → rest ≡ bs ++ d ∷ us → cond b (d ∷ x ∷ rs) (x ∷ rest) ≡ cond b [] (x ∷ bs) ++ d ∷ cond b (x ∷ rs) us
around_step true d x rest bs us rs same = refl
around_step false d x rest bs us rs same = ap (λ ds. x ∷ ds) same

around_among : (d : Doc) (es : List Entry) → around d es ≡ befores es ++ d ∷ afters es
around_among d [] = refl
around_among d (e ∷ es) = around_step e.is_after d e.statement (around d es) (befores es) (afters es) (map (λ (f : Entry). f.statement) es) (around_among d es)

both_out : (b c : Bool) (o : Option (List Entry)) → cond b None (cond c None o) ≡ cond c None (cond b None o)
both_out true true o = refl
both_out true false o = refl
both_out false true o = refl
both_out false false o = refl

left_here : (b : Bool) (o : Option (List Entry)) → b ≡ false → unwrap_or (cond b None o) [] ≡ unwrap_or o []
left_here b o off = ap (λ x. unwrap_or (cond x None o) []) off

untouched : (p : ℕ → Option (List Entry)) (d e : Doc) → shares_number d e ≡ false → waiting_for (without p d) e ≡ waiting_for p e
untouched p d nil off = refl
untouched p d (flag b) off = refl
untouched p d (number n) off = refl
untouched p d (text t) off = refl
untouched p d (list ds) off = refl
untouched p d (node k i b e ds) off = left_here (is_numbered i d) (p i) off

or_first : (b c : Bool) → (b || c) ≡ false → b ≡ false
or_first true c off = off
or_first false c off = refl

or_rest : (b c : Bool) → (b || c) ≡ false → c ≡ false
or_rest true c off = absurd (cc)
or_rest false c off = off

others_stay : (ds : List Doc) (p : ℕ → Option (List Entry)) (d : Doc) → list_any (shares_number d) ds ≡ false → placed ds (without p d) ≡ placed ds p
others_stay [] p d off = refl
others_stay (e ∷ es) p d off =
    let here : around e (waiting_for (without p d) e) ≡ around e (waiting_for p e) = ap (around e) (untouched p d e (or_first (shares_number d e) (list_any (shares_number d) es) off)) in
    let turned : placed es (without (without p d) e) ≡ placed es (without (without p e) d) = placed_same (without (without p e) d) (without (without p d) e) (λ n. both_out (is_numbered n e) (is_numbered n d) (p n)) es in
    let later : placed es (without (without p e) d) ≡ placed es (without p e) = others_stay es (without p e) d (or_rest (shares_number d e) (list_any (shares_number d) es) off) in
    cc

pub each_among : EachAmongItsOwn
each_among [] p differ = refl
each_among (d ∷ ds) p differ =
    let here : around d (waiting_for p d) ≡ among p d = around_among d (waiting_for p d) in
    let rest : placed ds (without p d) ≡ placed ds p = others_stay ds p d differ.0 in
    let later : placed ds p ≡ flat_map (among p) ds = each_among ds p differ.1 in
    let e : around d (waiting_for p d) ++ placed ds (without p d) ≡ among p d ++ flat_map (among p) ds = cc in
    e

last_step : (b : Bool) (d x : Doc) (e : Entry) (es ls : List Entry) (bs : List Doc) → befores ls ≡ bs ++ d ∷ [] → e.is_after ≡ b → e.statement ≡ x → befores (cond b (before_it d ∷ e ∷ es) (e ∷ ls)) ≡ cond b [] (x ∷ bs) ++ d ∷ []
last_step true d x e es ls bs same after is = ap (λ c. d ∷ cond c [] (e.statement ∷ befores es)) after
last_step false d x e es ls bs same after is = ap (λ c. cond c [] (e.statement ∷ befores ls)) after ∙ (ap (λ y. y ∷ befores ls) is ∙ ap (λ ds. x ∷ ds) same)

last_befores : (d : Doc) (es : List Entry) → befores (last_before (before_it d) es) ≡ befores es ++ d ∷ []
last_befores d [] = refl
last_befores d (e ∷ es) = last_step e.is_after d e.statement e es (last_before (before_it d) es) (befores es) (last_befores d es) refl refl

after_step : (b : Bool) (d : Doc) (e : Entry) (es ls : List Entry) → afters ls ≡ afters es → e.is_after ≡ b → afters (cond b (before_it d ∷ e ∷ es) (e ∷ ls)) ≡ afters (e ∷ es)
after_step true d e es ls same after = refl
after_step false d e es ls same after = ap (λ c. cond c (map (λ (f : Entry). f.statement) (e ∷ ls)) (afters ls)) after ∙ (same ∙ sym (ap (λ c. cond c (map (λ (f : Entry). f.statement) (e ∷ es)) (afters es)) after))

last_afters : (d : Doc) (es : List Entry) → afters (last_before (before_it d) es) ≡ afters es
last_afters d [] = refl
last_afters d (e ∷ es) = after_step e.is_after d e es (last_before (before_it d) es) (last_afters d es) refl

pub one_last_before : OneGoesLastBefore
one_last_before d es = (last_befores d es, last_afters d es)

pub many_first_before : ManyGoFirstBefore
many_first_before [] es = (refl, refl)
many_first_before (d ∷ ds) es = (ap (λ xs. d ∷ xs) (many_first_before ds es).0, (many_first_before ds es).1)

statements_of : (es : List Entry) (ds : List Doc) → map (λ (f : Entry). f.statement) (es ++ map after_it ds) ≡ map (λ (f : Entry). f.statement) es ++ ds
statements_of [] [] = refl
statements_of [] (d ∷ ds) = ap (λ xs. d ∷ xs) (statements_of [] ds)
statements_of (e ∷ es) ds = ap (λ xs. e.statement ∷ xs) (statements_of es ds)

no_befores : (ds : List Doc) → befores (map after_it ds) ≡ []
no_befores [] = refl
no_befores (d ∷ ds) = refl

all_afters : (ds : List Doc) → afters (map after_it ds) ≡ ds
all_afters [] = refl
all_afters (d ∷ ds) = statements_of [] (d ∷ ds)

befores_step : (b : Bool) (x : Doc) (bs cs : List Doc) → bs ≡ cs → cond b [] (x ∷ bs) ≡ cond b [] (x ∷ cs)
befores_step b x bs cs same = ap (λ ds. cond b [] (x ∷ ds)) same

afters_step : (b : Bool) (xs ys us vs ds : List Doc) → xs ≡ ys ++ ds → us ≡ vs ++ ds → cond b xs us ≡ cond b ys vs ++ ds
afters_step true xs ys us vs ds same later = same
afters_step false xs ys us vs ds same later = later

pub many_last_after : ManyGoLastAfter
many_last_after ds [] = (no_befores ds, all_afters ds)
many_last_after ds (e ∷ es) =
    (befores_step e.is_after e.statement (befores (es ++ map after_it ds)) (befores es) (many_last_after ds es).0, afters_step e.is_after (map (λ (f : Entry). f.statement) ((e ∷ es) ++ map after_it ds)) (map (λ (f : Entry). f.statement) (e ∷ es)) (afters (es ++ map after_it ds)) (afters es) ds (statements_of (e ∷ es) ds) (many_last_after ds es).1)

pub one_last_after : OneGoesLastAfter
one_last_after d es = many_last_after (d ∷ []) es
