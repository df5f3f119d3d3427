-- Marked names, and what of references was passed.
use Rattle.std.proofs.Common.{◌≡◌, ◌∙◌, refl, sym, ap, subst, ℕ, zero, suc, ◌+◌, ◌-◌, ◌<◌, ◌≤◌, List, [], ◌∷◌, ◌++◌, length, drop, get_or, Bool, true, false, not, ◌&&◌, ◌||◌, cond, Option, None, Some, option_map, is_some, arith}
use Rattle.std.proofs.lemmas.List.Folds.{list_any-append}
use Rattle.std.proofs.lemmas.Option.{slice_get-map}
use Rattle.std.specs.Int.RustNames.{bit_and}
use Rattle.std.specs.List.{list_any}
use Rattle.std.specs.Map.{lookup}
use Rattle.std.specs.Prelude.{nat_eq, nat_lt, slice_get, unwrap_or, ◌==◌}
use Rattle.oxt_modules.specs.Marked.{IsPassed, adds, beside, first_use, is_use, is_value, marked_by, marked_in, passed_at, unless, used_beside}
use Rattle.oxt_modules.specs.Names.{has_value_use, is_value_use, references_of}
use Rattle.oxt_names.specs.declared.ids.ReferenceId.{ReferenceId}
use Rattle.oxt_names.specs.declared.ids.SymbolId.{SymbolId}
use Rattle.oxt_options.specs.Facts.{is_in}
use Rattle.oxt_scoping.specs.Entries.{SymbolData}
use Rattle.oxt_scoping.specs.Scoped.{Scoped, live, live_at}
use Rattle.oxt_scoping.specs.declared.entry.Reference.{Reference}
use Rattle.oxt_scoping.specs.declared.entry.Slot.{Slot}
use Rattle.oxt_names.proofs.Lists.{drop_at, drop_end}
use Rattle.oxt_tree.specs.View.{docs_in, part_doc}
use Rattle.oxt_tree.specs.declared.tree.Part.{Part}

-- ---- a reference that is a value use beside the marked names

and_true : (a : Bool) → (a && true) ≡ a
and_true true = refl
and_true false = refl

and_false : (a : Bool) → (a && false) ≡ false
and_false true = refl
and_false false = refl

abbrev value_in : List ℕ → Option Reference → Bool
value_in ms None = false
value_in ms (Some r) = is_value ms r

-- it is there, and is marked or not
by_slot : (live marked : Bool) (value : Bool) (r : Reference) → value ≡ (bit_and r.flags.0 4 == 0)
    → is_value_use (cond (live && not marked) (Some r) None) ≡ (live && (value && not marked))
by_slot true true v r e = sym (and_false v)
by_slot true false v r e = sym e ∙ sym (and_true v)
by_slot false m v r e = refl

of_live : (b : Bool) (ms : List ℕ) (r : Reference) → (b && is_value ms r) ≡ value_in ms (cond b (Some r) None)
of_live true ms r = refl
of_live false ms r = refl

of_slot : (ms : List ℕ) (o : Option Slot) → is_value_use (live (option_map (unless ms) o)) ≡ value_in ms (live o)
of_slot ms None = refl
of_slot ms (Some s) = by_slot s.is_live (is_in ms s.reference.node.0) (bit_and s.reference.flags.0 4 == 0) s.reference refl ∙ of_live s.is_live ms s.reference

is_use_of : (s : Scoped) (ms : List ℕ) (r : ReferenceId) → is_use s ms r ≡ value_in ms (live_at s.references r.0)
is_use_of s ms r = ap (λ o. is_value_use (live o)) (slice_get-map (unless ms) s.references r.0) ∙ of_slot ms (slice_get s.references r.0)

pub use_some : (s : Scoped) (ms : List ℕ) (r : ReferenceId) (q : Reference) → live_at s.references r.0 ≡ Some q → is_value ms q ≡ is_use s ms r
use_some s ms r q at = sym (is_use_of s ms r ∙ ap (value_in ms) at)

none_in : (ms : List ℕ) (o : Option Reference) → false ≡ is_some o → false ≡ value_in ms o
none_in ms None h = refl
none_in ms (Some q) h = cc

pub use_none : (s : Scoped) (ms : List ℕ) (r : ReferenceId) → false ≡ is_some (live_at s.references r.0) → false ≡ is_use s ms r
use_none s ms r none = none_in ms (live_at s.references r.0) none ∙ sym (is_use_of s ms r)

pub ruleset value_steps = (use_some, use_none)

-- ---- the first that passes a test

pub first_within : (p : ReferenceId → Bool) (rs : List ReferenceId) → first_use p rs ≤ length rs
first_within p [] = omega arith
first_within p (r ∷ rs) = step (p r) (first_within p rs)
  where
    step : (b : Bool) → first_use p rs ≤ length rs → cond b 0 (first_use p rs + 1) ≤ length (r ∷ rs)
    step true rest = omega arith
    step false rest = omega (arith, rest)

first_of : (p : ReferenceId → Bool) (r : ReferenceId) (rs : List ReferenceId) (b : Bool) → p r ≡ b → first_use p (r ∷ rs) ≡ cond b 0 (first_use p rs + 1)
first_of p r rs b e = ap (λ c. cond c 0 (first_use p rs + 1)) e

pub first_past : (p : ReferenceId → Bool) (rs : List ReferenceId) (i : ℕ) (r : ReferenceId) → i ≤ first_use p rs → i < length rs → r ≡ get_or rs i r → p r ≡ false → i + 1 ≤ first_use p rs
first_past p [] i r le lt at none_here = absurd (omega arith)
first_past p (q ∷ rs) zero r le lt at none_here = let e : first_use p (q ∷ rs) ≡ first_use p rs + 1 = first_of p q rs false (sym (ap p at) ∙ none_here) in omega (arith, e)
first_past p (q ∷ rs) (suc i) r le lt at none_here = step (p q) refl (λ le'. first_past p rs i r le' (omega arith) at none_here)
  where
    step : (b : Bool) → p q ≡ b → (i ≤ first_use p rs → i + 1 ≤ first_use p rs) → suc i + 1 ≤ first_use p (q ∷ rs)
    step true e rest = let f = first_of p q rs true e in absurd (omega (arith, f))
    step false e rest = let f = first_of p q rs false e in let within : i ≤ first_use p rs = omega (arith, f) in let past = rest within in omega (arith, f, past)

pub first_here : (p : ReferenceId → Bool) (rs : List ReferenceId) (i : ℕ) (r : ReferenceId) → i ≤ first_use p rs → i < length rs → r ≡ get_or rs i r → p r ≡ true → i ≡ first_use p rs
first_here p [] i r le lt at is = absurd (omega arith)
first_here p (q ∷ rs) zero r le lt at is = sym (first_of p q rs true (sym (ap p at) ∙ is))
first_here p (q ∷ rs) (suc i) r le lt at is = step (p q) refl (λ le'. first_here p rs i r le' (omega arith) at is)
  where
    step : (b : Bool) → p q ≡ b → (i ≤ first_use p rs → i ≡ first_use p rs) → suc i ≡ first_use p (q ∷ rs)
    step true e rest = let f = first_of p q rs true e in absurd (omega (arith, f))
    step false e rest = let f = first_of p q rs false e in let within : i ≤ first_use p rs = omega (arith, f) in let here = rest within in omega (arith, f, here)

pub first_end : (p : ReferenceId → Bool) (rs : List ReferenceId) (i : ℕ) → i ≤ first_use p rs → length rs ≤ i → length rs ≡ first_use p rs
first_end p rs i le past = let within = first_within p rs in omega (arith, within)

pub ruleset first_steps = (first_past, first_here, first_end)

one_less : (m n : ℕ) → nat_lt (m + 1) (suc n) ≡ nat_lt m n
one_less m n = grind arith

-- one passes the test exactly where the first that does is there
pub found_is : (p : ReferenceId → Bool) (rs : List ReferenceId) → nat_lt (first_use p rs) (length rs) ≡ list_any p rs
found_is p [] = refl
found_is p (r ∷ rs) = step (p r) (found_is p rs)
  where
    step : (b : Bool) → nat_lt (first_use p rs) (length rs) ≡ list_any p rs → nat_lt (cond b 0 (first_use p rs + 1)) (length (r ∷ rs)) ≡ (b || list_any p rs)
    step true rest = grind arith
    step false rest = one_less (first_use p rs) (length rs) ∙ rest

-- ---- more marks

in_more : (ms : List ℕ) (k n : ℕ) → is_in ms n ≡ true → is_in (ms ++ k ∷ []) n ≡ true
in_more ms k n h = list_any-append (nat_eq n) ms (k ∷ []) ∙ ap (λ b. b || is_in (k ∷ []) n) h

-- what is no use is none where more is marked
less_value : (v a b : Bool) → (a ≡ true → b ≡ true) → (v && not a) ≡ false → (v && not b) ≡ false
less_value true true b h _ = ap not (h refl)
less_value true false b h none_here = cc
less_value false a b h _ = refl

still_none : (ms : List ℕ) (k : ℕ) (o : Option Reference) → value_in ms o ≡ false → value_in (ms ++ k ∷ []) o ≡ false
still_none ms k None h = refl
still_none ms k (Some r) h = less_value (bit_and r.flags.0 4 == 0) (is_in ms r.node.0) (is_in (ms ++ k ∷ []) r.node.0) (in_more ms k r.node.0) h

still_no_use : (s : Scoped) (ms : List ℕ) (k : ℕ) (r : ReferenceId) → is_use s ms r ≡ false → is_use s (ms ++ k ∷ []) r ≡ false
still_no_use s ms k r h = is_use_of s (ms ++ k ∷ []) r ∙ still_none ms k (live_at s.references r.0) (sym (is_use_of s ms r) ∙ h)

-- the first of those that pass a stronger test stands no earlier
later : (p q : ReferenceId → Bool) → ((r : ReferenceId) → p r ≡ false → q r ≡ false) → (rs : List ReferenceId) → first_use p rs ≤ first_use q rs
later p q h [] = omega arith
later p q h (r ∷ rs) = step (p r) refl (later p q h rs)
  where
    step : (b : Bool) → p r ≡ b → first_use p rs ≤ first_use q rs → first_use p (r ∷ rs) ≤ first_use q (r ∷ rs)
    step true e rest = let f = first_of p r rs true e in omega (arith, f)
    step false e rest = let f = first_of p r rs false e in let g = first_of q r rs false (h r e) in omega (arith, f, g, rest)

pub more_passed : (s : Scoped) (ms : List ℕ) (b : Bool) (o : Option ℕ) (es : List (ℕ × ℕ)) → IsPassed s ms es → IsPassed s (adds ms b o) es
more_passed s ms b None es so_far i = so_far i
more_passed s ms true (Some k) es so_far i =
    let before = so_far i in
    let after = later (is_use s ms) (is_use s (ms ++ k ∷ [])) (still_no_use s ms k) (references_of (slice_get s.symbols i)) in
    omega (arith, before, after)
more_passed s ms false (Some k) es so_far i = so_far i

-- ---- what of the references to a symbol was passed

-- those of a symbol that is there
references_are : (o : Option SymbolData) (rs : List ReferenceId) → option_map (λ y. y.references) o ≡ Some rs → references_of o ≡ rs
references_are None rs h = cc
references_are (Some y) rs h = cc

pub passed_before : (s : Scoped) (ms : List ℕ) (es : List (ℕ × ℕ)) (i : ℕ) (rs : List ReferenceId) → option_map (λ y. y.references) (slice_get s.symbols i) ≡ Some rs → IsPassed s ms es → passed_at es i ≤ first_use (is_use s ms) rs
passed_before s ms es i rs are so_far = subst (λ qs. passed_at es i ≤ first_use (is_use s ms) qs) (references_are (slice_get s.symbols i) rs are) (so_far i)

pub is_used_so : (s : Scoped) (ms : List ℕ) (i : SymbolId) (rs : List ReferenceId) (n : ℕ) → option_map (λ y. y.references) (slice_get s.symbols i.0) ≡ Some rs → n ≡ first_use (is_use s ms) rs → nat_lt n (length rs) ≡ used_beside s ms (Some i)
is_used_so s ms i rs n are is =
    ap (λ m. nat_lt m (length rs)) is ∙ found_is (is_use s ms) rs
    ∙ ap (λ qs. has_value_use (beside ms s).references qs) (sym (references_are (slice_get s.symbols i.0) rs are))

-- the place of the first use is noted
pub passed_after : (s : Scoped) (ms : List ℕ) (old new : List (ℕ × ℕ)) (k n : ℕ) (rs : List ReferenceId) → option_map (λ y. y.references) (slice_get s.symbols k) ≡ Some rs → n ≡ first_use (is_use s ms) rs
    → ((i : ℕ) → lookup (nat_eq i) new ≡ cond (nat_eq k i) (Some n) (lookup (nat_eq i) old)) → IsPassed s ms old → IsPassed s ms new
passed_after s ms old new k n rs are is updated so_far i = step (nat_eq k i) refl
  where
    step : (b : Bool) → nat_eq k i ≡ b → passed_at new i ≤ first_use (is_use s ms) (references_of (slice_get s.symbols i))
    step true e =
        let same : k ≡ i = grind (arith, e) in
        let at : passed_at new i ≡ n = ap (λ o. unwrap_or o 0) (updated i ∙ ap (λ c. cond c (Some n) (lookup (nat_eq i) old)) e) in
        let here : first_use (is_use s ms) (references_of (slice_get s.symbols i)) ≡ n = ap (λ j. first_use (is_use s ms) (references_of (slice_get s.symbols j))) (sym same) ∙ ap (first_use (is_use s ms)) (references_are (slice_get s.symbols k) rs are) ∙ sym is in
        omega (arith, at, here)
    step false e =
        let at : passed_at new i ≡ passed_at old i = ap (λ o. unwrap_or o 0) (updated i ∙ ap (λ c. cond c (Some n) (lookup (nat_eq i) old)) e) in
        let before = so_far i in
        omega (arith, at, before)

pub ruleset use_steps = (passed_before, is_used_so, passed_after)

-- ---- statements, from the last on

-- no statement yet
pub none_marked : (s : Scoped) (ps : List Part) (ms : List ℕ) → ms ≡ [] → ms ≡ marked_in s (docs_in (drop (length ps - 0) ps))
none_marked s ps ms none = none ∙ sym (ap (λ qs. marked_in s (docs_in qs)) (drop_end ps (length ps - 0) (omega arith)))

pub none_passed : (s : Scoped) (ms : List ℕ) (es : List (ℕ × ℕ)) → es ≡ [] → IsPassed s ms es
none_passed s ms es none i = let at : passed_at es i ≡ 0 = ap (λ fs. passed_at fs i) none in omega (arith, at)

-- one statement more
pub one_marked : (s : Scoped) (ps : List Part) (i : ℕ) (p : Part) (old new : List ℕ) → i < length ps → p ≡ get_or ps (length ps - 1 - i) p → old ≡ marked_in s (docs_in (drop (length ps - i) ps))
    → new ≡ marked_by s old (part_doc p) → new ≡ marked_in s (docs_in (drop (length ps - (i + 1)) ps))
one_marked s ps i p old new lt at so_far is =
    let place : length ps - (i + 1) ≡ length ps - 1 - i = omega arith in
    let next : length ps - 1 - i + 1 ≡ length ps - i = omega arith in
    is ∙ ap (λ ms. marked_by s ms (part_doc p)) (so_far ∙ ap (λ k. marked_in s (docs_in (drop k ps))) (sym next))
    ∙ sym (ap (λ k. marked_in s (docs_in (drop k ps))) place ∙ ap (λ qs. marked_in s (docs_in qs)) (drop_at ps (length ps - 1 - i) p (omega arith) at))

-- all statements
pub all_marked : (s : Scoped) (ps : List Part) (i : ℕ) (ms : List ℕ) → length ps ≤ i → ms ≡ marked_in s (docs_in (drop (length ps - i) ps)) → ms ≡ marked_in s (docs_in ps)
all_marked s ps i ms past so_far = so_far ∙ ap (λ k. marked_in s (docs_in (drop k ps))) (let none : length ps - i ≡ 0 = omega arith in none)

pub ruleset statement_steps = (none_marked, none_passed, one_marked, all_marked)
