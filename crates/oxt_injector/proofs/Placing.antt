-- Placing one statement after the other.
use Rattle.std.proofs.Common.{◌≡◌, ℕ, zero, suc, ◌∙◌, ◌+◌, ◌<◌, ◌≤◌, List, [], ◌∷◌, ◌++◌, map, length, drop, get_or, Bool, true, false, cond, ◌||◌, Option, None, unwrap_or, ap, add-one, arith, refl, sym}
use Rattle.std.proofs.lemmas.List.{append_assoc, map-append}
use Rattle.std.specs.List.{list_any}
use Rattle.oxt_tree.specs.Doc.{Doc, nil, flag, number, text, list, node}
use Rattle.oxt_tree.specs.View.{part_doc}
use Rattle.oxt_tree.specs.declared.tree.Part.{Part}
use Rattle.oxt_stores.specs.Insertion.{Entry, after_it, docs, entries}
use Rattle.oxt_injector.specs.Placed.{around, found, is_numbered, placed, waiting_for, without, without_all}
use Rattle.oxt_stores.specs.declared.insertions.Insertions.{Insertions}
use Rattle.oxt_stores.proofs.Waiting.{both}

-- ---- one statement

statements_after : (us : List Part) → map (λ (f : Entry). f.statement) (map after_it (docs us)) ≡ docs us
statements_after [] = refl
statements_after (a ∷ us) = ap (λ ds. part_doc a ∷ ds) (statements_after us)

around_sides : (d : Doc) (bs us : List Part) → around d (both bs us) ≡ docs bs ++ d ∷ docs us
around_sides d [] [] = refl
around_sides d [] (a ∷ us) = ap (λ ds. d ∷ part_doc a ∷ ds) (statements_after us)
around_sides d (b ∷ bs) us = ap (λ ds. part_doc b ∷ ds) (around_sides d bs us)

-- a statement among what waits for it
pub placed_list : (l : Insertions) (p : Part) (out new : List Part) → new ≡ out ++ (l.before.items ++ p ∷ l.after.items) → docs new ≡ docs out ++ around (part_doc p) (entries l)
placed_list l p out new same =
    ap docs same ∙ (map-append part_doc out (l.before.items ++ p ∷ l.after.items) ∙ ap (λ ds. docs out ++ ds) (map-append part_doc l.before.items (p ∷ l.after.items) ∙ sym (around_sides (part_doc p) l.before.items l.after.items)))

-- ---- what is found

found_next : (p : ℕ → Option (List Entry)) (ps : List Part) (i : ℕ) (q : Part) → i < length ps → q ≡ get_or ps i q → found p (docs (drop i ps)) ≡ length (waiting_for p (part_doc q)) + found p (docs (drop (suc i) ps))
found_next p [] i q lt here = absurd (omega arith)
found_next p (r ∷ ps) zero q lt here = ap (λ x. length (waiting_for p (part_doc x)) + found p (docs ps)) (sym here)
found_next p (r ∷ ps) (suc i) q lt here = found_next p ps i q (omega arith) here

-- one more counted
pub found_more : (p : ℕ → Option (List Entry)) (ps : List Part) (i : ℕ) (q : Part) → i < length ps → q ≡ get_or ps i q → found p (docs (drop i ps)) ≡ length (waiting_for p (part_doc q)) + found p (docs (drop (i + 1) ps))
found_more p ps i q lt here = rw add-one (found_next p ps i q lt here)

-- no more to count
pub found_done : (p : ℕ → Option (List Entry)) (ps : List Part) (i : ℕ) → length ps ≤ i → found p (docs (drop i ps)) ≡ 0
found_done p [] zero le = refl
found_done p [] (suc i) le = refl
found_done p (r ∷ ps) zero le = absurd (omega arith)
found_done p (r ∷ ps) (suc i) le = found_done p ps i (omega arith)

-- ---- what is left

waiting_same : (p q : ℕ → Option (List Entry)) → ((n : ℕ) → q n ≡ p n) → (d : Doc) → waiting_for q d ≡ waiting_for p d
waiting_same p q same nil = refl
waiting_same p q same (flag b) = refl
waiting_same p q same (number n) = refl
waiting_same p q same (text t) = refl
waiting_same p q same (list ds) = refl
waiting_same p q same (node k i b e ds) = ap (λ o. unwrap_or o []) (same i)

without_same : (p q : ℕ → Option (List Entry)) → ((n : ℕ) → q n ≡ p n) → (d : Doc) (n : ℕ) → without q d n ≡ without p d n
without_same p q same d n = ap (cond (is_numbered n d) None) (same n)

pub placed_same : (p q : ℕ → Option (List Entry)) → ((n : ℕ) → q n ≡ p n) → (ds : List Doc) → placed ds q ≡ placed ds p
placed_same p q same [] = refl
placed_same p q same (d ∷ ds) =
    let here : around d (waiting_for q d) ≡ around d (waiting_for p d) = ap (around d) (waiting_same p q same d) in
    let later : placed ds (without q d) ≡ placed ds (without p d) = placed_same (without p d) (without q d) (without_same p q same d) ds in
    cc

found_same : (p q : ℕ → Option (List Entry)) → ((n : ℕ) → q n ≡ p n) → (ds : List Doc) → found q ds ≡ found p ds
found_same p q same [] = refl
found_same p q same (d ∷ ds) =
    let here : length (waiting_for q d) ≡ length (waiting_for p d) = ap length (waiting_same p q same d) in
    let later : found q ds ≡ found p ds = found_same p q same ds in
    cc

fewer_here : (b : Bool) (o : Option (List Entry)) → length (unwrap_or (cond b None o) []) ≤ length (unwrap_or o [])
fewer_here true o = omega arith
fewer_here false o = omega arith

fewer : (p : ℕ → Option (List Entry)) (d e : Doc) → length (waiting_for (without p d) e) ≤ length (waiting_for p e)
fewer p d nil = omega arith
fewer p d (flag b) = omega arith
fewer p d (number n) = omega arith
fewer p d (text t) = omega arith
fewer p d (list ds) = omega arith
fewer p d (node k i b e ds) = fewer_here (is_numbered i d) (p i)

found_fewer : (p : ℕ → Option (List Entry)) (d : Doc) (ds : List Doc) → found (without p d) ds ≤ found p ds
found_fewer p d [] = omega arith
found_fewer p d (e ∷ ds) = omega (arith, fewer p d e, found_fewer p d ds)

-- ---- one step of the loop

pub found_left : (p q : ℕ → Option (List Entry)) (d : Doc) (ds : List Doc) → ((n : ℕ) → q n ≡ without p d n) → found q ds ≤ found p ds
found_left p q d ds taken = omega (arith, found_same (without p d) q taken ds, found_fewer p d ds)

pub placed_more : (p q : ℕ → Option (List Entry)) (d : Doc) (ds out new whole : List Doc) → ((n : ℕ) → q n ≡ without p d n) → new ≡ out ++ around d (waiting_for p d) → out ++ placed (d ∷ ds) p ≡ whole → new ++ placed ds q ≡ whole
placed_more p q d ds out new whole taken here so_far =
    let rest : placed ds q ≡ placed ds (without p d) = placed_same (without p d) q taken ds in
    let e : new ++ placed ds q ≡ (out ++ around d (waiting_for p d)) ++ placed ds (without p d) = cc in
    e ∙ (append_assoc out (around d (waiting_for p d)) (placed ds (without p d)) ∙ so_far)

or_left : (b c : Bool) (o : Option (List Entry)) → cond c None (cond b None o) ≡ cond (b || c) None o
or_left true true o = refl
or_left true false o = refl
or_left false true o = refl
or_left false false o = refl

pub left_more : (p q : ℕ → Option (List Entry)) (d : Doc) (ds : List Doc) → ((n : ℕ) → q n ≡ without p d n) → (n : ℕ) → without_all q ds n ≡ without_all p (d ∷ ds) n
left_more p q d ds taken n = ap (cond (list_any (is_numbered n) ds) None) (taken n) ∙ or_left (is_numbered n d) (list_any (is_numbered n) ds) (p n)

no_entries : (es : List Entry) → length es ≡ 0 → es ≡ []
no_entries [] none = refl
no_entries (e ∷ es) none = absurd (omega arith)

-- where nothing is found, the statements stay as they are
pub placed_none : (p : ℕ → Option (List Entry)) (ds : List Doc) → found p ds ≡ 0 → placed ds p ≡ ds
placed_none p [] none = refl
placed_none p (d ∷ ds) none =
    let here : waiting_for p d ≡ [] = no_entries (waiting_for p d) (omega arith) in
    let later : placed ds (without p d) ≡ ds = placed_none (without p d) ds (omega (arith, found_fewer p d ds)) in
    ap (λ es. around d es ++ placed ds (without p d)) here ∙ ap (λ xs. d ∷ xs) later
