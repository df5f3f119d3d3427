-- The table of taken names: what an insertion does to the names, and to what was tried behind them.
use Rattle.std.proofs.Common.{ℕ, ◌≡◌, refl, sym, ap, ◌∙◌, subst, List, [], ◌∷◌, ◌++◌, Bool, true, false, cond, map, ◌||◌, Option, Some, None, is_some, MatchOption, Ordering, Less, Equal, Greater, Result, Ok, Err, OnErr, String, string_bytes, string_cmp, nat_cmp, is_eq, true≢false, arith}
use Rattle.std.specs.Fmt.{decimal}
use Rattle.std.specs.BTreeMap.{insert_entry, is_at}
use Rattle.std.specs.Cmp.Lexicographic.{slice_cmp}
use Rattle.std.specs.Map.{keys_of, lookup}
use Rattle.std.specs.Ordering.{match_ordering}
use Rattle.std.specs.Str.{bytes_eq}
use Rattle.std.specs.declared.alloc.Global.{Global}
use Rattle.std.proofs.lemmas.Map.Text.{is_eq-slice_cmp}
use Rattle.std.proofs.lemmas.Slice.Eq.{bytes_eq-Decides}
use Rattle.oxt_names.specs.Made.{is_among, placed, added}
use Rattle.oxt_names.specs.Tried.{Entry, spellings, TriedBelow, AllTried, IsTried}

-- ---- the names

spelled_insert : (es : List Entry) (k : String Global) (v : ℕ) → spellings (insert_entry string_cmp es k v) ≡ placed (string_bytes k) (spellings es)
spelled_insert [] k v = refl
spelled_insert (e ∷ es) k v = by (slice_cmp nat_cmp (string_bytes k) (string_bytes e.0)) (spelled_insert es k v)
  where
    by : (o : Ordering) → spellings (insert_entry string_cmp es k v) ≡ placed (string_bytes k) (spellings es) → spellings (match_ordering o ((k, v) ∷ e ∷ es) ((e.0, v) ∷ es) (e ∷ insert_entry string_cmp es k v)) ≡ match_ordering o (string_bytes k ∷ string_bytes e.0 ∷ spellings es) (string_bytes e.0 ∷ spellings es) (string_bytes e.0 ∷ placed (string_bytes k) (spellings es))
    by Less rest = refl
    by Equal rest = refl
    by Greater rest = ap (λ ss. string_bytes e.0 ∷ ss) rest

spelled_keys : (es : List Entry) → spellings es ≡ map string_bytes (keys_of es)
spelled_keys [] = refl
spelled_keys (e ∷ es) = ap (λ ss. string_bytes e.0 ∷ ss) (spelled_keys es)

-- the entry with these bytes
abbrev pub at_text : List ℕ → String Global → Ordering
at_text t k = slice_cmp nat_cmp t (string_bytes k)

pub found : (es : List Entry) (t : List ℕ) → is_some (lookup (is_at (at_text t)) es) ≡ is_among t (spellings es)
found [] t = refl
found (e ∷ es) t = ap (λ b. is_some (cond b (Some e.1) (lookup (is_at (at_text t)) es))) (is_eq-slice_cmp t (string_bytes e.0)) ∙ by (bytes_eq t (string_bytes e.0)) (found es t)
  where
    by : (b : Bool) → is_some (lookup (is_at (at_text t)) es) ≡ is_among t (spellings es) → is_some (cond b (Some e.1) (lookup (is_at (at_text t)) es)) ≡ b || is_among t (spellings es)
    by true rest = refl
    by false rest = rest

same_bytes : (t u : List ℕ) → bytes_eq t u ≡ true → t ≡ u
same_bytes t u h = (bytes_eq-Decides t u).0 h

behind : (a b : Bool) → b ≡ true → a || b ≡ true
behind true b h = refl
behind false b h = h

among_behind : (t u : List ℕ) (ss : List (List ℕ)) → is_among t ss ≡ true → is_among t (placed u ss) ≡ true
among_behind t u [] h = absurd (true≢false (sym h))
among_behind t u (s ∷ ss) h = by (slice_cmp nat_cmp u s) (within (bytes_eq t s) h (λ k. among_behind t u ss k))
  where
    within : (a : Bool) → a || is_among t ss ≡ true → (is_among t ss ≡ true → is_among t (placed u ss) ≡ true) → a || is_among t (placed u ss) ≡ true
    within true k rest = refl
    within false k rest = rest k

    by : (o : Ordering) → is_among t (s ∷ placed u ss) ≡ true → is_among t (match_ordering o (u ∷ s ∷ ss) (s ∷ ss) (s ∷ placed u ss)) ≡ true
    by Less k = behind (bytes_eq t u) (is_among t (s ∷ ss)) h
    by Equal k = h
    by Greater k = k

among_placed : (t : List ℕ) (ss : List (List ℕ)) → is_among t (placed t ss) ≡ true
among_placed t [] = ap (λ b. b || false) ((bytes_eq-Decides t t).1 refl)
among_placed t (s ∷ ss) = by (slice_cmp nat_cmp t s) (sym (is_eq-slice_cmp t s)) (among_placed t ss)
  where
    by : (o : Ordering) → bytes_eq t s ≡ is_eq o → is_among t (placed t ss) ≡ true → is_among t (match_ordering o (t ∷ s ∷ ss) (s ∷ ss) (s ∷ placed t ss)) ≡ true
    by Less e rest = ap (λ b. b || is_among t (s ∷ ss)) ((bytes_eq-Decides t t).1 refl)
    by Equal e rest = ap (λ b. b || is_among t ss) e
    by Greater e rest = behind (bytes_eq t s) (is_among t (placed t ss)) rest

pub added_new : (t : List ℕ) (ss : List (List ℕ)) → is_among t ss ≡ false → added t ss ≡ placed t ss
added_new t ss h = ap (λ b. cond b ss (placed t ss)) h

pub added_present : (t : List ℕ) (ss : List (List ℕ)) → is_among t ss ≡ true → added t ss ≡ ss
added_present t ss h = ap (λ b. cond b ss (placed t ss)) h

pub among_more : (t u : List ℕ) (ss : List (List ℕ)) → is_among t ss ≡ true → is_among t (added u ss) ≡ true
among_more t u ss h = by (is_among u ss)
  where
    by : (b : Bool) → is_among t (cond b ss (placed u ss)) ≡ true
    by true = h
    by false = among_behind t u ss h

pub among_added : (t : List ℕ) (ss : List (List ℕ)) → is_among t (added t ss) ≡ true
among_added t ss = by (is_among t ss) refl
  where
    by : (b : Bool) → is_among t ss ≡ b → is_among t (cond b ss (placed t ss)) ≡ true
    by true h = h
    by false h = among_placed t ss

swap_in : (a b c : Bool) → a || (b || c) ≡ (b || c) || a
swap_in true true c = refl
swap_in true false true = refl
swap_in true false false = refl
swap_in false true c = refl
swap_in false false true = refl
swap_in false false false = refl

once_more : (a b c : Bool) → b ≡ a → a || c ≡ (a || c) || b
once_more true b c h = refl
once_more false b true h = refl
once_more false b false h = sym h

or_assoc : (a b c : Bool) → a || (b || c) ≡ (a || b) || c
or_assoc true b c = refl
or_assoc false b c = refl

placed_among : (t u : List ℕ) (ss : List (List ℕ)) → is_among t (placed u ss) ≡ is_among t ss || bytes_eq t u
placed_among t u [] = by (bytes_eq t u)
  where
    by : (b : Bool) → b || false ≡ b
    by true = refl
    by false = refl
placed_among t u (s ∷ ss) = by (slice_cmp nat_cmp u s) (sym (is_eq-slice_cmp u s)) (placed_among t u ss)
  where
    by : (o : Ordering) → bytes_eq u s ≡ is_eq o → is_among t (placed u ss) ≡ is_among t ss || bytes_eq t u → is_among t (match_ordering o (u ∷ s ∷ ss) (s ∷ ss) (s ∷ placed u ss)) ≡ (bytes_eq t s || is_among t ss) || bytes_eq t u
    by Less e rest = swap_in (bytes_eq t u) (bytes_eq t s) (is_among t ss)
    by Equal e rest = once_more (bytes_eq t s) (bytes_eq t u) (is_among t ss) (ap (bytes_eq t) (same_bytes u s e))
    by Greater e rest = ap (λ b. bytes_eq t s || b) rest ∙ or_assoc (bytes_eq t s) (is_among t ss) (bytes_eq t u)

-- a text is among those with one more where it was, or is that one
pub added_among : (t u : List ℕ) (ss : List (List ℕ)) → is_among t (added u ss) ≡ is_among t ss || bytes_eq t u
added_among t u ss = by (is_among u ss) refl
  where
    there : (b : Bool) → bytes_eq t u ≡ b → is_among u ss ≡ true → is_among t ss ≡ is_among t ss || b
    there true e h = let at : is_among t ss ≡ true = ap (λ v. is_among v ss) (same_bytes t u e) ∙ h in at ∙ sym (ap (λ b. b || true) at)
    there false e h = by_two (is_among t ss)
      where
        by_two : (b : Bool) → b ≡ b || false
        by_two true = refl
        by_two false = refl

    by : (b : Bool) → is_among u ss ≡ b → is_among t (cond b ss (placed u ss)) ≡ is_among t ss || bytes_eq t u
    by true h = there (bytes_eq t u) refl h
    by false h = placed_among t u ss

-- ---- what was tried

pub tried_two : (taken : List (List ℕ)) (base : List ℕ) → TriedBelow taken base 2
tried_two taken base = (omega arith, λ k a b. absurd (omega arith))

tried_more : (u : List ℕ) (taken : List (List ℕ)) (es : List Entry) → AllTried taken es → AllTried (added u taken) es
tried_more u taken [] h = tt
tried_more u taken (e ∷ es) h = ((h.0.0, λ k a b. among_more (string_bytes e.0 ++ decimal k) u taken (h.0.1 k a b)), tried_more u taken es h.1)

tried_insert : (taken : List (List ℕ)) (es : List Entry) (k : String Global) (v : ℕ) → AllTried taken es → TriedBelow taken (string_bytes k) v → AllTried taken (insert_entry string_cmp es k v)
tried_insert taken [] k v h t = (t, tt)
tried_insert taken (e ∷ es) k v h t = by (slice_cmp nat_cmp (string_bytes k) (string_bytes e.0)) (sym (is_eq-slice_cmp (string_bytes k) (string_bytes e.0))) (tried_insert taken es k v h.1 t)
  where
    by : (o : Ordering) → bytes_eq (string_bytes k) (string_bytes e.0) ≡ is_eq o → AllTried taken (insert_entry string_cmp es k v) → AllTried taken (match_ordering o ((k, v) ∷ e ∷ es) ((e.0, v) ∷ es) (e ∷ insert_entry string_cmp es k v))
    by Less s rest = (t, h)
    by Equal s rest = (subst (λ bs. TriedBelow taken bs v) (same_bytes (string_bytes k) (string_bytes e.0) s) t, h.1)
    by Greater s rest = (h.0, rest)

pub tried_at : (taken : List (List ℕ)) (es : List Entry) (t : List ℕ) (v : ℕ) → AllTried taken es → lookup (is_at (at_text t)) es ≡ Some v → TriedBelow taken t v
tried_at taken [] t v h e = cc
tried_at taken (x ∷ es) t v h e = by (is_eq (at_text t x.0)) (sym (is_eq-slice_cmp t (string_bytes x.0))) e (λ f. tried_at taken es t v h.1 f)
  where
    by : (b : Bool) → bytes_eq t (string_bytes x.0) ≡ b → cond b (Some x.1) (lookup (is_at (at_text t)) es) ≡ Some v → (lookup (is_at (at_text t)) es ≡ Some v → TriedBelow taken t v) → TriedBelow taken t v
    by true s f rest = let n : x.1 ≡ v = cc in subst (λ bs. TriedBelow taken bs v) (sym (same_bytes t (string_bytes x.0) s)) (subst (λ n. TriedBelow taken (string_bytes x.0) n) n h.0)
    by false s f rest = rest f

-- an insertion adds the name, and keeps what was tried where that holds behind it
pub record Inserted (es new : List Entry) (t : List ℕ) : Type 0 where
  pub names : spellings new ≡ added t (spellings es)
  pub tried : IsTried new

-- a name that is there keeps its place, and one that is not goes to its place
names_after : (es new : List Entry) (k : String Global) (v : ℕ) → new ≡ insert_entry string_cmp es k v → (is_some (lookup (is_at (string_cmp k)) es) ≡ true → keys_of new ≡ keys_of es) → spellings new ≡ added (string_bytes k) (spellings es)
names_after es new k v e stay = by (is_among (string_bytes k) (spellings es)) (found es (string_bytes k))
  where
    by : (b : Bool) → is_some (lookup (is_at (at_text (string_bytes k))) es) ≡ b → spellings new ≡ cond b (spellings es) (placed (string_bytes k) (spellings es))
    by true h = spelled_keys new ∙ ap (map string_bytes) (stay h) ∙ sym (spelled_keys es)
    by false h = ap spellings e ∙ spelled_insert es k v

pub inserted : (es new : List Entry) (k : String Global) (v : ℕ) → new ≡ insert_entry string_cmp es k v → (is_some (lookup (is_at (string_cmp k)) es) ≡ true → keys_of new ≡ keys_of es) → IsTried es → TriedBelow (added (string_bytes k) (spellings es)) (string_bytes k) v → Inserted es new (string_bytes k)
inserted es new k v e stay h t =
    let names : spellings new ≡ added (string_bytes k) (spellings es) = names_after es new k v e stay in
    let after : AllTried (added (string_bytes k) (spellings es)) new = subst (AllTried (added (string_bytes k) (spellings es))) (sym e) (tried_insert (added (string_bytes k) (spellings es)) es k v (tried_more (string_bytes k) (spellings es) es h) t) in
    record { names = names; tried = subst (λ ss. AllTried ss new) (sym names) after }

-- ---- the calls on the table

pub absent : (es : List Entry) (t : List ℕ) → lookup (is_at (at_text t)) es ≡ None → is_among t (spellings es) ≡ false
absent es t h = sym (found es t) ∙ ap is_some h

pub next_of : (es : List Entry) (t : List ℕ) (r : Option ℕ) → r ≡ lookup (is_at (at_text t)) es → IsTried es → MatchOption r (is_among t (spellings es) ≡ false) (λ n. (is_among t (spellings es) ≡ true) × TriedBelow (spellings es) t n)
next_of es t None e h = absent es t (sym e)
next_of es t (Some n) e h = (sym (found es t) ∙ ap is_some (sym e), tried_at (spellings es) es t n h (sym e))

-- what holds in any case holds where a call fails
pub on_err : {T E P : Type 0} (r : Result T E) → P → OnErr r P
on_err (Ok x) p = tt
on_err (Err e) p = p
