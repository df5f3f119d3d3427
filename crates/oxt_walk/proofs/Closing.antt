-- Leaving lists among whose statements nothing waits and for which nothing is declared.
use Rattle.std.proofs.Common.{◌≡◌, ℕ, ◌∙◌, ◌-◌, ◌<◌, List, [], ◌∷◌, ◌++◌, length, take, Bool, true, false, cond, Option, None, unwrap_or, ap, arith, refl, sym}
use Rattle.std.specs.List.{list_any}
use Rattle.std.specs.Prelude.{◌==◌}
use Rattle.std.proofs.lemmas.List.{take-append-drop}
use Rattle.std.proofs.Math.Seq.{take-append_seam}
use Rattle.oxt_ctx.specs.Context.{Context}
use Rattle.oxt_stores.specs.Frame.{Frame, below_top, no_declarators, top_frame}
use Rattle.oxt_stores.specs.Insertion.{Entry, docs}
use Rattle.oxt_injector.specs.Pending.{pending}
use Rattle.oxt_injector.specs.Placed.{around, found, is_numbered, left, placed, waiting_for, without}
use Rattle.oxt_ctx.specs.Level.{IsUntouched, declared, waits}
use Rattle.oxt_tree.specs.Doc.{Doc, nil, flag, number, text, list, node, docs_of}
use Rattle.oxt_tree.specs.View.{docs_in}
use Rattle.oxt_tree.specs.declared.tree.Part.{Part}
use Rattle.oxt_walk.proofs.Steps.{watched_as}
use Rattle.oxt_traverse.specs.Closed.{arrow_body, declarations, imports, with_declarations}
use Rattle.oxt_walk.specs.Watched.{IsWatched}

-- nothing waits
abbrev pub Nothing : (ℕ → Option (List Entry)) → Type 0
Nothing p = (n : ℕ) → p n ≡ None

none_waits : (p : ℕ → Option (List Entry)) → Nothing p → (d : Doc) → waiting_for p d ≡ []
none_waits p nothing nil = refl
none_waits p nothing (flag b) = refl
none_waits p nothing (number n) = refl
none_waits p nothing (text t) = refl
none_waits p nothing (list ds) = refl
none_waits p nothing (node k i b e ds) = ap (λ o. unwrap_or o []) (nothing i)

none_or : (b : Bool) (o : Option (List Entry)) → o ≡ None → cond b None o ≡ None
none_or true o h = refl
none_or false o h = h

without_nothing : (p : ℕ → Option (List Entry)) → Nothing p → (d : Doc) → Nothing (without p d)
without_nothing p nothing d n = none_or (is_numbered n d) (p n) (nothing n)

-- the statements stay as they are
pub placed_nothing : (p : ℕ → Option (List Entry)) → Nothing p → (ds : List Doc) → placed ds p ≡ ds
placed_nothing p nothing [] = refl
placed_nothing p nothing (d ∷ ds) =
    let here : around d (waiting_for p d) ≡ d ∷ [] = ap (around d) (none_waits p nothing d) in
    let rest : placed ds (without p d) ≡ ds = placed_nothing (without p d) (without_nothing p nothing d) ds in
    cc

either_none : (b c : Bool) (o : Option (List Entry)) → o ≡ None → cond b o (cond c None o) ≡ None
either_none true c o h = h
either_none false true o h = refl
either_none false false o h = h

-- and nothing waits afterwards
pub left_nothing : (p : ℕ → Option (List Entry)) → Nothing p → (ds : List Doc) (n : ℕ) → left p ds n ≡ None
left_nothing p nothing ds n = either_none (found p ds == 0) (list_any (is_numbered n) ds) (p n) (nothing n)

top_pushed : (fs : List Frame) (f : Frame) → top_frame (fs ++ f ∷ []) ≡ f
top_pushed [] f = refl
top_pushed (g ∷ []) f = refl
top_pushed (g ∷ h ∷ fs) f = top_pushed (h ∷ fs) f

-- the frame that was pushed is on top
pub top_none : (fs gs : List Frame) → gs ≡ fs ++ no_declarators ∷ [] → top_frame gs ≡ no_declarators
top_none fs gs pushed = ap top_frame pushed ∙ top_pushed fs no_declarators

some_pushed : (fs : List Frame) (f : Frame) → 0 < length (fs ++ f ∷ [])
some_pushed [] f = omega arith
some_pushed (g ∷ fs) f = omega arith

length_pushed : (fs : List Frame) (f : Frame) → length (fs ++ f ∷ []) - 1 ≡ length fs
length_pushed [] f = refl
length_pushed (g ∷ fs) f =
    let rest : length (fs ++ f ∷ []) - 1 ≡ length fs = length_pushed fs f in
    let some : 0 < length (fs ++ f ∷ []) = some_pushed fs f in
    omega arith

-- and those below it are as before
pub below_pushed : (fs gs : List Frame) → gs ≡ fs ++ no_declarators ∷ [] → below_top gs ≡ fs
below_pushed fs gs pushed =
    ap below_top pushed ∙ (ap (λ n. take n (fs ++ no_declarators ∷ [])) (length_pushed fs no_declarators) ∙ take-append_seam fs (no_declarators ∷ []))

none_above : (is_body : Bool) (ds : List Doc) → with_declarations is_body [] ds ≡ ds
none_above true ds = take-append-drop (imports ds) ds
none_above false ds = refl

-- a list of statements that is left
pub closed_quiet : (is_body : Bool) (next : ℕ) (fs gs : List Frame) (p : ℕ → Option (List Entry)) (ds es : List Doc) → gs ≡ fs ++ no_declarators ∷ [] → Nothing p → es ≡ with_declarations is_body (declarations next (top_frame gs)) (placed ds p) → es ≡ ds
closed_quiet is_body next fs gs p ds es pushed nothing closed =
    closed ∙ (ap (λ f. with_declarations is_body (declarations next f) (placed ds p)) (top_none fs gs pushed) ∙ (ap (with_declarations is_body []) (placed_nothing p nothing ds) ∙ none_above is_body ds))

-- the expression of an arrow that is left
pub arrow_quiet : (next : ℕ) (fs gs : List Frame) (d e : Doc) → gs ≡ fs ++ no_declarators ∷ [] → e ≡ arrow_body next (top_frame gs) (declarations next (top_frame gs)) d → e ≡ d
arrow_quiet next fs gs d e pushed closed =
    closed ∙ ap (λ f. arrow_body next f (declarations next f) d) (top_none fs gs pushed)

-- ---- what is left as it was

-- a list of statements that is left
pub statements_untouched : (w is_body : Bool) (next : ℕ) (d : Doc) (a b c l : Context) (ps qs : List Part) → b.injector ≡ a.injector → declared b ≡ declared a ++ no_declarators ∷ [] → IsUntouched (IsWatched w b) d (list (docs_in ps)) b c → docs qs ≡ with_declarations is_body (declarations next (top_frame (declared c))) (placed (docs ps) (waits c)) → ((n : ℕ) → waits l n ≡ left (waits c) (docs ps) n) → declared l ≡ below_top (declared c) → IsUntouched (IsWatched w a) d (list (docs_in qs)) a l
statements_untouched w is_body next d a b c l ps qs same opened inside closed waited popped =
    let inner : IsWatched w a → IsWatched w b = watched_as w a b same in
    let nothing : IsWatched w a → Nothing (waits c) = λ v n. inside.waiting (inner v) n ∙ (inner v).idle n in
    let pushed : IsWatched w a → declared c ≡ declared a ++ no_declarators ∷ [] = λ v. inside.declarators (inner v) ∙ opened in
    record {
      document = λ v. ap (λ ds. list (docs_of ds)) (closed_quiet is_body next (declared a) (declared c) (waits c) (docs ps) (docs qs) (pushed v) (nothing v) closed) ∙ inside.document (inner v);
      waiting = λ v n. waited n ∙ (left_nothing (waits c) (nothing v) (docs ps) n ∙ sym (v.idle n));
      declarators = λ v. popped ∙ below_pushed (declared a) (declared c) (pushed v);
    }

-- the expression of an arrow that is left
pub expression_untouched : (w : Bool) (next : ℕ) (d e f : Doc) (a b c l : Context) → b.injector ≡ a.injector → declared b ≡ declared a ++ no_declarators ∷ [] → IsUntouched (IsWatched w b) d e b c → f ≡ arrow_body next (top_frame (declared c)) (declarations next (top_frame (declared c))) e → l.injector ≡ c.injector → declared l ≡ below_top (declared c) → IsUntouched (IsWatched w a) d f a l
expression_untouched w next d e f a b c l same opened inside closed waited popped =
    let inner : IsWatched w a → IsWatched w b = watched_as w a b same in
    let pushed : IsWatched w a → declared c ≡ declared a ++ no_declarators ∷ [] = λ v. inside.declarators (inner v) ∙ opened in
    record {
      document = λ v. arrow_quiet next (declared a) (declared c) e f (pushed v) closed ∙ inside.document (inner v);
      waiting = λ v n. ap (λ i. pending i n) waited ∙ (inside.waiting (inner v) n ∙ ap (λ i. pending i n) same);
      declarators = λ v. popped ∙ below_pushed (declared a) (declared c) (pushed v);
    }
