-- The names that are taken: those of elements, and then those of properties, one after another.
use denote.Ref.{Bor}
use Rattle.std.proofs.Common.{◌≡◌, ◌∙◌, refl, sym, ap, ℕ, ◌+◌, ◌<◌, ◌≤◌, List, [], ◌∷◌, ◌++◌, map, length, get_or, drop, append_assoc, append-nil, Bool, true, false, not, ◌||◌, Option, None, Some, option_map, Result, Ok, Err, OnOk, true≢false}
use Rattle.std.proofs.Math.Path.{fun_ext}
use Rattle.std.proofs.lemmas.List.{map-append}
use Rattle.std.specs.Prelude.{if◌then◌else◌}
use Rattle.std.specs.Str.{bytes_eq}
use Rattle.oxt_fields.specs.Rules.{Rules}
use Rattle.oxt_names.proofs.Tables.{added_among, added_present}
use Rattle.oxt_names.specs.Made.{added, is_among, placed}
use Rattle.oxt_told.specs.Classes.{free_names, is_name, is_own_name, own_name}
use Rattle.oxt_told.specs.Taken.{free_name}
use Rattle.oxt_names.proofs.Lists.{drop_at, drop_end}
use Rattle.oxt_tree.specs.Bound.{bound_views}
use Rattle.oxt_names.specs.Names.{name_bytes}
use Rattle.oxt_tree.specs.View.{docs_in, part_doc}
use Rattle.oxt_tree.specs.declared.bound.BoundName.{BoundName}
use Rattle.oxt_names.specs.declared.name.Name.{Name}
use Rattle.oxt_tree.specs.declared.tree.Part.{Part}

-- ---- one name

same_or : (a b : Bool) → a ≡ b → b ≡ true → false ≡ not a
same_or true b e h = refl
same_or false b e h = absurd (true≢false (sym h ∙ sym e))

-- a name that is taken is not taken again
pub taken_again : (t u : List ℕ) (ts : List (List ℕ)) → u ≡ t → true ≡ is_among u ts → false ≡ not (is_among t ts)
taken_again t u ts named h = same_or (is_among t ts) (is_among u ts) (ap (λ x. is_among x ts) (sym named)) (sym h)

pub taken_kept : (t u : List ℕ) (ts : List (List ℕ)) → u ≡ t → true ≡ is_among u ts → ts ≡ added t ts
taken_kept t u ts named h = sym (ap (λ b. if b then ts else placed t ts) (ap (λ x. is_among x ts) (sym named) ∙ sym h))

-- one that is not is free
pub taken_first : (t u : List ℕ) (ts : List (List ℕ)) → u ≡ t → false ≡ is_among u ts → true ≡ not (is_among t ts)
taken_first t u ts named h = ap not (h ∙ ap (λ x. is_among x ts) named)

pub taken_added : (t u : List ℕ) (ts new : List (List ℕ)) → u ≡ t → new ≡ added u ts → new ≡ added t ts
taken_added t u ts new named is = is ∙ ap (λ x. added x ts) named

pub ruleset take_steps = (taken_again, taken_kept, taken_first, taken_added)

-- the name of a field that is put
pub name_put : (t : List ℕ) (ts : List (List ℕ)) (n : Name) (old new : List Name) → true ≡ not (is_among t ts) → name_bytes n ≡ t → new ≡ old ++ n ∷ [] → map name_bytes new ≡ map name_bytes old ++ free_name ts t
name_put t ts n old new free named put =
    ap (map name_bytes) put ∙ map-append name_bytes old (n ∷ []) ∙ ap (λ x. map name_bytes old ++ x ∷ []) named
    ∙ ap (λ b. map name_bytes old ++ (if b then [] else t ∷ [])) (sym (is_false (is_among t ts) free))
  where
    is_false : (b : Bool) → true ≡ not b → b ≡ false
    is_false true h = h
    is_false false h = refl

pub no_name_put : (t : List ℕ) (ts : List (List ℕ)) (old : List Name) → false ≡ not (is_among t ts) → map name_bytes old ≡ map name_bytes old ++ free_name ts t
no_name_put t ts old taken =
    sym (append-nil (map name_bytes old)) ∙ ap (λ b. map name_bytes old ++ (if b then [] else t ∷ [])) (sym (is_true (is_among t ts) taken))
  where
    is_true : (b : Bool) → false ≡ not b → b ≡ true
    is_true true h = refl
    is_true false h = h

-- ---- the names of elements

or-false : (b : Bool) → b || false ≡ b
or-false true = refl
or-false false = refl

or_assoc : (a b c : Bool) → a || (b || c) ≡ (a || b) || c
or_assoc true b c = refl
or_assoc false b c = refl

noted : (n : Option (Bor (List ℕ))) (b : Bor (List ℕ)) (old new : List (List ℕ)) → n ≡ Some b → new ≡ added b.now old
    → (t : List ℕ) → is_among t new ≡ (is_among t old || is_name (option_map (λ x. x.now) n) t)
noted n b old new some is t =
    ap (is_among t) is ∙ added_among t b.now old ∙ ap (λ x. is_among t old || is_name (option_map (λ y. y.now) x) t) (sym some)

-- a name is noted where that call succeeds
pub noted_by : {T E : Type 0} (r : Result T E) (n : Option (Bor (List ℕ))) (b : Bor (List ℕ)) (old new : List (List ℕ)) → n ≡ Some b → OnOk r (new ≡ added b.now old)
    → OnOk r ((t : List ℕ) → is_among t new ≡ (is_among t old || is_name (option_map (λ x. x.now) n) t))
noted_by (Ok x) n b old new some put = noted n b old new some put
noted_by (Err e) n b old new some put = tt

pub not_noted : (n : Option (Bor (List ℕ))) (ts : List (List ℕ)) → None ≡ n
    → (t : List ℕ) → is_among t ts ≡ (is_among t ts || is_name (option_map (λ x. x.now) n) t)
not_noted n ts none t = sym (or-false (is_among t ts)) ∙ ap (λ x. is_among t ts || is_name (option_map (λ y. y.now) x) t) none

pub own_none : (r : Rules) (ps : List Part) (ks : List (List ℕ)) → ks ≡ [] → (t : List ℕ) → is_own_name r (docs_in ps) t ≡ (is_among t ks || is_own_name r (docs_in ps) t)
own_none r ps ks empty t = ap (λ x. is_among t x || is_own_name r (docs_in ps) t) (sym empty)

pub own_more : (r : Rules) (whole : List ℕ → Bool) (ps : List Part) (i : ℕ) (p : Part) (old new : List (List ℕ)) → i < length ps → p ≡ get_or ps i p
    → ((t : List ℕ) → is_among t new ≡ (is_among t old || is_name (own_name r (part_doc p)) t))
    → ((t : List ℕ) → whole t ≡ (is_among t old || is_own_name r (docs_in (drop i ps)) t))
    → (t : List ℕ) → whole t ≡ (is_among t new || is_own_name r (docs_in (drop (i + 1) ps)) t)
own_more r whole ps i p old new within at is so_far t =
    so_far t ∙ ap (λ qs. is_among t old || is_own_name r (docs_in qs) t) (drop_at ps i p within at)
    ∙ or_assoc (is_among t old) (is_name (own_name r (part_doc p)) t) (is_own_name r (docs_in (drop (i + 1) ps)) t)
    ∙ ap (λ b. b || is_own_name r (docs_in (drop (i + 1) ps)) t) (sym (is t))

pub own_done : (r : Rules) (whole : List ℕ → Bool) (ps : List Part) (i : ℕ) (ks : List (List ℕ)) → length ps ≤ i
    → ((t : List ℕ) → whole t ≡ (is_among t ks || is_own_name r (docs_in (drop i ps)) t))
    → (t : List ℕ) → is_among t ks ≡ whole t
own_done r whole ps i ks past so_far t =
    sym (so_far t ∙ ap (λ qs. is_among t ks || is_own_name r (docs_in qs) t) (drop_end ps i past) ∙ or-false (is_among t ks))

pub ruleset own_steps = (own_none, own_done)

-- ---- the names of properties

-- the names of the fields so far, and then the free ones of those that are left
abbrev pub free_so_far : List Name → List (List ℕ) → List BoundName → List (List ℕ)
free_so_far fields taken left = map name_bytes fields ++ free_names (λ t. is_among t taken) (map (λ p. p.name) (bound_views left))

pub free_none : (own : List ℕ → Bool) (taken : List (List ℕ)) (fields : List Name) (ps : List BoundName) → ((t : List ℕ) → is_among t taken ≡ own t) → fields ≡ []
    → free_names own (map (λ p. p.name) (bound_views ps)) ≡ free_so_far fields taken ps
free_none own taken fields ps same empty =
    ap (λ f. free_names f (map (λ p. p.name) (bound_views ps))) (sym (fun_ext same))
    ∙ ap (λ x. map name_bytes x ++ free_names (λ t. is_among t taken) (map (λ p. p.name) (bound_views ps))) (sym empty)

-- one name, by whether it is free
free_step : (ts : List (List ℕ)) (n : List ℕ) (ns : List (List ℕ)) → free_names (λ t. is_among t ts) (n ∷ ns) ≡ free_name ts n ++ free_names (λ t. is_among t (added n ts)) ns
free_step ts n ns = by (is_among n ts) refl
  where
    by : (b : Bool) → is_among n ts ≡ b → (if b then free_names (λ t. is_among t ts) ns else n ∷ free_names (λ t. is_among t ts || bytes_eq t n) ns)
        ≡ (if b then [] else n ∷ []) ++ free_names (λ t. is_among t (added n ts)) ns
    by true h = ap (λ x. free_names (λ t. is_among t x) ns) (sym (added_present n ts h))
    by false h = ap (λ f. n ∷ free_names f ns) (sym (fun_ext (λ t. added_among t n ts)))

pub free_more : (whole : List (List ℕ)) (ps : List BoundName) (i : ℕ) (p : BoundName) (old new : List Name) (taken taken' : List (List ℕ)) → i < length ps → p ≡ get_or ps i p
    → taken' ≡ added (name_bytes p.name) taken
    → map name_bytes new ≡ map name_bytes old ++ free_name taken (name_bytes p.name)
    → whole ≡ free_so_far old taken (drop i ps) → whole ≡ free_so_far new taken' (drop (i + 1) ps)
free_more whole ps i p old new taken taken' within at takes puts so_far =
    let ns = map (λ q. q.name) (bound_views (drop (i + 1) ps)) in
    let ts = taken in
    so_far ∙ ap (free_so_far old taken) (drop_at ps i p within at)
    ∙ ap (λ x. map name_bytes old ++ x) (free_step ts (name_bytes p.name) ns)
    ∙ sym (append_assoc (map name_bytes old) (free_name ts (name_bytes p.name)) (free_names (λ t. is_among t (added (name_bytes p.name) ts)) ns))
    ∙ ap (λ x. x ++ free_names (λ t. is_among t (added (name_bytes p.name) ts)) ns) (sym puts)
    ∙ ap (λ x. map name_bytes new ++ free_names (λ t. is_among t x) ns) (sym takes)

pub free_done : (whole : List (List ℕ)) (ps : List BoundName) (i : ℕ) (fields : List Name) (taken : List (List ℕ)) → length ps ≤ i → whole ≡ free_so_far fields taken (drop i ps) → map name_bytes fields ≡ whole
free_done whole ps i fields taken past so_far = sym (so_far ∙ ap (free_so_far fields taken) (drop_end ps i past) ∙ append-nil (map name_bytes fields))

pub ruleset free_steps = (free_none, free_done)
