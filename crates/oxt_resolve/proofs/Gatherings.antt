-- Tables of what a list says of numbers.
use Rattle.std.proofs.Common.{◌≡◌, ◌∙◌, refl, sym, ap, ℕ, ◌+◌, ◌<◌, ◌≤◌, List, [], length, drop, get_or, map, Bool, true, false, cond, Some}
use Rattle.std.specs.Cmp.{nat_eq_equiv}
use Rattle.std.specs.Prelude.{◌==◌}
use Rattle.oxt_resolve.specs.Flags.{both, scope_flag}
use Rattle.oxt_resolve.specs.Gathered.{at_number, gathered, or_this}
use Rattle.oxt_resolve.specs.Marks.{Mark, flags_in, mark_view, mark_views, marked}
use Rattle.oxt_resolve.specs.declared.marks.Mark.{Mark as Marked}
use Rattle.oxt_resolve.specs.declared.marks.Marks.{Marks}
use Rattle.oxt_names.specs.declared.flags.ScopeFlags.{ScopeFlags}
use Rattle.std.proofs.lemmas.Bool.{eqb-true}
use Rattle.oxt_names.proofs.Lists.{drop_at, drop_end}

-- ---- tables by numbers

-- what stands at a number once something is put there
pub at_put : {V : Type 0} (q k : ℕ) (v : V) (es new : List (ℕ × V)) → at_number q new ≡ cond (k == q) (Some v) (at_number q es) → at_number q new ≡ cond (q == k) (Some v) (at_number q es)
at_put q k v es new is = is ∙ ap (λ b. cond b (Some v) (at_number q es)) (nat_eq_equiv.symm k q)

-- ---- lists

-- what is gathered from a place on, begun with what there is
pub gathered_next : {A B V : Type 0} (number : B → ℕ) (add : V → B → V) (view : A → B) (xs : List A) (i : ℕ) (x : A) (n : ℕ) (whole s t : V) → i < length xs → x ≡ get_or xs i x
    → whole ≡ gathered number add s (map view (drop i xs)) n → t ≡ cond (n == number (view x)) (add s (view x)) s → whole ≡ gathered number add t (map view (drop (i + 1) xs)) n
gathered_next number add view xs i x n whole s t h at so_far done =
    so_far ∙ ap (λ ys. gathered number add s (map view ys) n) (drop_at xs i x h at) ∙ ap (λ u. gathered number add u (map view (drop (i + 1) xs)) n) (sym done)

pub gathered_end : {A B V : Type 0} (number : B → ℕ) (add : V → B → V) (view : A → B) (xs : List A) (i : ℕ) (n : ℕ) (whole s : V) → length xs ≤ i
    → whole ≡ gathered number add s (map view (drop i xs)) n → s ≡ whole
gathered_end number add view xs i n whole s h so_far = sym (so_far ∙ ap (λ ys. gathered number add s (map view ys) n) (drop_end xs i h))

-- the flags that are put at a number
flags_cased : (b : Bool) (n k : ℕ) (es : List (ℕ × ScopeFlags)) (f : ScopeFlags) → (n == k) ≡ b
    → or_this (scope_flag 0) (cond b (Some (both (or_this (scope_flag 0) (at_number k es)) f)) (at_number n es)) ≡ cond b (both (or_this (scope_flag 0) (at_number n es)) f) (or_this (scope_flag 0) (at_number n es))
flags_cased true n k es f e = ap (λ q. both (or_this (scope_flag 0) (at_number q es)) f) (sym (eqb-true n k e))
flags_cased false n k es f e = refl

pub flags_put : (n k : ℕ) (es new : List (ℕ × ScopeFlags)) (f g h : ScopeFlags) → ((q : ℕ) → at_number q new ≡ cond (q == k) (Some g) (at_number q es)) → g ≡ both h f → h ≡ or_this (scope_flag 0) (at_number k es)
    → or_this (scope_flag 0) (at_number n new) ≡ cond (n == k) (both (or_this (scope_flag 0) (at_number n es)) f) (or_this (scope_flag 0) (at_number n es))
flags_put n k es new f g h put is was =
    ap (or_this (scope_flag 0)) (put n ∙ ap (λ x. cond (n == k) (Some x) (at_number n es)) (is ∙ ap (λ x. both x f) was)) ∙ flags_cased (n == k) n k es f refl

pub same_function : {V : Type 0} (f g : ℕ → V) → ((n : ℕ) → f n ≡ g n) → f ≡ g
same_function f g h = λ j n. h n j

-- the marks from a place on are to come
abbrev pub MarksFrom : ℕ → List Marked → Marks → Type 0
MarksFrom i ms t = (n : ℕ) → marked (mark_views ms) n ≡ gathered (λ (m : Mark). m.node) (λ f (m : Mark). both f m.flags) (flags_in t n) (mark_views (drop i ms)) n

pub marks_none : (ms : List Marked) (t : Marks) → t.flags.entries ≡ [] → MarksFrom 0 ms t
marks_none ms t empty n = ap (λ es. gathered (λ (m : Mark). m.node) (λ f (m : Mark). both f m.flags) (or_this (scope_flag 0) (at_number n es)) (mark_views ms) n) (sym empty)

pub marks_more : (ms : List Marked) (i : ℕ) (m : Marked) (old new : Marks) → i < length ms → m ≡ get_or ms i m → ((n : ℕ) → flags_in new n ≡ cond (n == m.node.0) (both (flags_in old n) m.flags) (flags_in old n)) → MarksFrom i ms old → MarksFrom (i + 1) ms new
marks_more ms i m old new h at put so_far n =
    gathered_next (λ (m : Mark). m.node) (λ (f : ScopeFlags) (m : Mark). both f m.flags) mark_view ms i m n (marked (mark_views ms) n) (flags_in old n) (flags_in new n) h at (so_far n) (put n)

pub marks_all : (ms : List Marked) (i : ℕ) (t : Marks) → length ms ≤ i → MarksFrom i ms t → flags_in t ≡ marked (mark_views ms)
marks_all ms i t h so_far =
    same_function (flags_in t) (marked (mark_views ms)) (λ n. gathered_end (λ (m : Mark). m.node) (λ (f : ScopeFlags) (m : Mark). both f m.flags) mark_view ms i n (marked (mark_views ms) n) (flags_in t n) h (so_far n))

pub ruleset mark_froms = (marks_none, marks_more, marks_all)
