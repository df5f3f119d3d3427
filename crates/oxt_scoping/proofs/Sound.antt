-- What holds of every table of scopes, and that each change keeps it.
use Rattle.std.proofs.Common.{◌≡◌, refl, sym, ap, subst, ◌∙◌, ℕ, zero, suc, ◌<◌, ◌≤◌, List, [], ◌∷◌, ◌++◌, length, map, filter, Bool, true, false, cond, Option, Some, None, IfSome, arith, Ordering, Less, Equal, Greater, nat_cmp}
use Rattle.std.proofs.lemmas.List.{length-map}
use Rattle.std.specs.Prelude.{slice_get}
use Rattle.std.specs.Map.{lookup, remove_entry}
use Rattle.std.specs.Str.{bytes_eq}
use Rattle.std.specs.BTreeMap.{insert_entry}
use Rattle.std.specs.Cmp.Lexicographic.{slice_cmp}
use Rattle.std.specs.Ordering.{match_ordering}
use Rattle.oxt_names.specs.Constant.{Constant}
use Rattle.oxt_names.specs.declared.flags.ScopeFlags.{ScopeFlags}
use Rattle.oxt_names.specs.declared.ids.ReferenceId.{ReferenceId}
use Rattle.oxt_names.specs.declared.ids.ScopeId.{ScopeId}
use Rattle.oxt_names.specs.declared.ids.SymbolId.{SymbolId}
use Rattle.oxt_scoping.specs.declared.entry.Slot.{Slot}
use Rattle.oxt_scoping.specs.declared.scoping.Scoping.TheInside.{Inside}
use Rattle.oxt_scoping.specs.Entries.{ScopeData, SymbolData, bind, bound_to, keeping}
use Rattle.oxt_scoping.specs.Scoped.{Each, IsScopeOf, IsSound, Scoped, bound_at, changed_at, first_of, found_from, found_within, meant_by, forgotten_by, stays, unbound_at, values_alone, with_body_at, with_scope_flags, with_value_at}

-- what contracts see of these fields
abbrev pub table_of : Inside → Scoped
table_of a = record { scopes = a.scopes.items; symbols = a.symbols.items; references = a.references.items; opened = a.opened.entries; declared = a.declared.entries; named = a.named.entries; taken = a.names }

-- ---- lists each of whose elements is so

pub each_more : {A : Type 0} (P Q : A → Type 0) (xs : List A) → ((x : A) → P x → Q x) → Each P xs → Each Q xs
each_more P Q [] f h = tt
each_more P Q (x ∷ xs) f h = (f x h.0, each_more P Q xs f h.1)

pub each_push : {A : Type 0} (P : A → Type 0) (xs : List A) (x : A) → Each P xs → P x → Each P (xs ++ x ∷ [])
each_push P [] x h p = (p, tt)
each_push P (y ∷ xs) x h p = (h.0, each_push P xs x h.1 p)

pub each_changed : {A : Type 0} (P : A → Type 0) (f : A → A) (xs : List A) (i : ℕ) → ((x : A) → P x → P (f x)) → Each P xs → Each P (changed_at i f xs)
each_changed P f [] i k h = tt
each_changed P f (x ∷ xs) zero k h = (k x h.0, h.1)
each_changed P f (x ∷ xs) (suc i) k h = (h.0, each_changed P f xs i k h.1)

pub each_at : {A : Type 0} (P : A → Type 0) (xs : List A) (i : ℕ) (x : A) → slice_get xs i ≡ Some x → Each P xs → P x
each_at P [] i x e h = cc
each_at P (y ∷ xs) zero x e h = let n : y ≡ x = cc in subst P n h.0
each_at P (y ∷ xs) (suc i) x e h = each_at P xs i x e h.1

pub each_lookup : {K V : Type 0} (R : V → Type 0) (test : K → Bool) (es : List (K × V)) → Each (λ e. R e.1) es → IfSome (lookup test es) R
each_lookup R test [] h = tt
each_lookup R test (e ∷ es) h = by (test e.0) (each_lookup R test es h.1)
  where
    by : (b : Bool) → IfSome (lookup test es) R → IfSome (cond b (Some e.1) (lookup test es)) R
    by true rest = h.0
    by false rest = rest

pub each_inserted : {K V : Type 0} (R : V → Type 0) (cmp : K → K → Ordering) (es : List (K × V)) (k : K) (v : V) → Each (λ e. R e.1) es → R v → Each (λ e. R e.1) (insert_entry cmp es k v)
each_inserted R cmp [] k v h p = (p, tt)
each_inserted R cmp (e ∷ es) k v h p = by (cmp k e.0) (each_inserted R cmp es k v h.1 p)
  where
    by : (o : Ordering) → Each (λ e. R e.1) (insert_entry cmp es k v) → Each (λ e. R e.1) (match_ordering o ((k, v) ∷ e ∷ es) ((e.0, v) ∷ es) (e ∷ insert_entry cmp es k v))
    by Less rest = (p, h)
    by Equal rest = (p, h.1)
    by Greater rest = (h.0, rest)

pub each_removed : {K V : Type 0} (P : (K × V) → Type 0) (test : K → Bool) (es : List (K × V)) → Each P es → Each P (remove_entry test es)
each_removed P test [] h = tt
each_removed P test (e ∷ es) h = by (test e.0) (each_removed P test es h.1)
  where
    by : (b : Bool) → Each P (remove_entry test es) → Each P (cond b es (e ∷ remove_entry test es))
    by true rest = h.1
    by false rest = (h.0, rest)

pub length_changed : {A : Type 0} (f : A → A) (xs : List A) (i : ℕ) → length (changed_at i f xs) ≡ length xs
length_changed f [] i = refl
length_changed f (x ∷ xs) zero = refl
length_changed f (x ∷ xs) (suc i) = ap (λ n. suc n) (length_changed f xs i)

length_push : {A : Type 0} (xs : List A) (x : A) → length (xs ++ x ∷ []) ≡ suc (length xs)
length_push [] x = refl
length_push (y ∷ xs) x = ap (λ n. suc n) (length_push xs x)

-- ---- scopes

if_some_more : (o : Option ScopeId) (n m : ℕ) → n ≤ m → IfSome o (λ p. p.0 < n) → IfSome o (λ p. p.0 < m)
if_some_more None n m le h = tt
if_some_more (Some p) n m le h = omega arith

scope_more : (n n' m m' : ℕ) (x : ScopeData) → n ≤ n' → m ≤ m' → IsScopeOf n m x → IsScopeOf n' m' x
scope_more n n' m m' x a b h = record {
  inside = if_some_more x.parent n n' a h.inside;
  binds = each_more _ _ x.bindings (λ e k. omega arith) h.binds;
}

scopes_more : (n n' m m' : ℕ) (xs : List ScopeData) → n ≤ n' → m ≤ m' → Each (IsScopeOf n m) xs → Each (IsScopeOf n' m') xs
scopes_more n n' m m' xs a b h = each_more _ _ xs (λ x k. scope_more n n' m m' x a b k) h

if_some_same : (R : SymbolId → Type 0) (o p : Option SymbolId) → p ≡ o → IfSome o R → IfSome p R
if_some_same R o p e h = subst (λ q. IfSome q R) (sym e) h

-- what a scope binds is a symbol
pub binding_live : (xs : List ScopeData) (n m i : ℕ) (x : ScopeData) (t : List ℕ) (r : Option SymbolId) → slice_get xs i ≡ Some x → r ≡ bound_to t x.bindings → Each (IsScopeOf n m) xs → IfSome r (λ y. y.0 < m)
binding_live xs n m i x t r at is h =
    if_some_same (λ y. y.0 < m) (bound_to t x.bindings) r is (each_lookup (λ (y : SymbolId). y.0 < m) (bytes_eq t) x.bindings (each_at (IsScopeOf n m) xs i x at h).binds)

-- what is found in a scope or around it is a symbol
first_live : (m : ℕ) (o p : Option SymbolId) → IfSome o (λ y. y.0 < m) → IfSome p (λ y. y.0 < m) → IfSome (first_of o p) (λ y. y.0 < m)
first_live m None p h k = k
first_live m (Some y) p h k = h

pub found_live : (left : ℕ) (xs : List ScopeData) (n m : ℕ) (t : List ℕ) (o : Option ScopeId) → Each (IsScopeOf n m) xs → IfSome (found_within left xs t o) (λ y. y.0 < m)
found_live zero xs n m t o h = tt
found_live (suc left) xs n m t None h = tt
found_live (suc left) xs n m t (Some i) h = by (λ o. found_live left xs n m t o h) (slice_get xs i.0) refl
  where
    by : ((o : Option ScopeId) → IfSome (found_within left xs t o) (λ y. y.0 < m)) → (o : Option ScopeData) → slice_get xs i.0 ≡ o → IfSome (found_from o (found_within left xs t) t) (λ y. y.0 < m)
    by rest None e = tt
    by rest (Some x) e = first_live m (bound_to t x.bindings) (found_within left xs t x.parent) (binding_live xs n m i.0 x t (bound_to t x.bindings) e refl h) (rest x.parent)

-- ---- the changes

-- one scope more
pub sound_scope : (s : Scoped) (x : ScopeData) (p : ScopeId) (xs : List ScopeData) → IsSound s → x.parent ≡ Some p → x.bindings ≡ [] → p.0 < length s.scopes → xs ≡ s.scopes ++ x ∷ []
    → IsSound (record s { scopes = xs })
sound_scope s x p xs h parent bindings outer is =
    let more : length xs ≡ suc (length s.scopes) = ap length is ∙ length_push s.scopes x in
    let own : IsScopeOf (length xs) (length s.symbols) x = record {
      inside = subst (λ (o : Option ScopeId). IfSome o (λ q. q.0 < length xs)) (sym parent) (omega arith);
      binds = subst (Each (λ b. b.1.0 < length s.symbols)) (sym bindings) tt;
    } in
    record {
      rooted = omega arith;
      scopes = subst (Each (IsScopeOf (length xs) (length s.symbols))) (sym is) (each_push _ s.scopes x (scopes_more _ _ _ _ s.scopes (omega arith) (omega arith) h.scopes) own);
      symbols = each_more _ _ s.symbols (λ y k. omega arith) h.symbols;
      bodies = each_more _ _ s.symbols (λ y k. each_more _ _ y.bodies (λ z j. omega arith) k) h.bodies;
      opened = each_more _ _ s.opened (λ e k. omega arith) h.opened;
      declared = h.declared;
      named = h.named;
    }

-- other bindings of one scope
pub sound_scopes : (s : Scoped) (xs : List ScopeData) → IsSound s → length xs ≡ length s.scopes → Each (IsScopeOf (length s.scopes) (length s.symbols)) xs → IsSound (record s { scopes = xs })
sound_scopes s xs h same each =
    subst (λ n. (0 < n) × Each (IsScopeOf n (length s.symbols)) xs × Each (λ y. y.scope.0 < n) s.symbols × Each (λ e. e.1.0 < n) s.opened × Each (λ y. Each (λ x. x.0 < n) y.bodies) s.symbols → IsSound (record s { scopes = xs })) same
    (λ k. record { rooted = k.0; scopes = k.1; symbols = k.2; bodies = k.4; opened = k.3; declared = h.declared; named = h.named })
    (h.rooted, each, h.symbols, h.opened, h.bodies)

-- other flags of a scope
pub sound_flagged : (s : Scoped) (i : ℕ) (f : ScopeFlags) (xs : List ScopeData) → IsSound s → xs ≡ with_scope_flags i f s.scopes → IsSound (record s { scopes = xs })
sound_flagged s i f xs h is =
    sound_scopes s xs h (ap length is ∙ length_changed _ s.scopes i)
    (subst (Each (IsScopeOf (length s.scopes) (length s.symbols))) (sym is)
    (each_changed _ _ s.scopes i (λ x k. record { inside = k.inside; binds = k.binds }) h.scopes))

pub sound_unbound : (s : Scoped) (i : ℕ) (t : List ℕ) (xs : List ScopeData) → IsSound s → xs ≡ unbound_at i t s.scopes → IsSound (record s { scopes = xs })
sound_unbound s i t xs h is =
    sound_scopes s xs h (ap length is ∙ length_changed _ s.scopes i)
    (subst (Each (IsScopeOf (length s.scopes) (length s.symbols))) (sym is)
    (each_changed _ _ s.scopes i (λ x k. record { inside = k.inside; binds = each_removed _ (bytes_eq t) x.bindings k.binds }) h.scopes))

each_kept : {A : Type 0} (P : A → Type 0) (test : A → Bool) (xs : List A) → Each P xs → Each P (filter test xs)
each_kept P test [] h = tt
each_kept P test (x ∷ xs) h = by (test x) (each_kept P test xs h.1)
  where
    by : (b : Bool) → Each P (filter test xs) → Each P (cond b (x ∷ filter test xs) (filter test xs))
    by true rest = (h.0, rest)
    by false rest = rest

scopes_kept : (n m : ℕ) (p : SymbolId → Bool) (xs : List ScopeData) → Each (IsScopeOf n m) xs → Each (IsScopeOf n m) (map (keeping p) xs)
scopes_kept n m p [] h = tt
scopes_kept n m p (x ∷ xs) h = (record { inside = h.0.inside; binds = each_kept _ (λ b. p b.1) x.bindings h.0.binds }, scopes_kept n m p xs h.1)

-- bindings of values alone
pub sound_values : (s : Scoped) (xs : List ScopeData) → IsSound s → xs ≡ values_alone s.symbols s.scopes → IsSound (record s { scopes = xs })
sound_values s xs h is =
    sound_scopes s xs h (ap length is ∙ length-map s.scopes _)
    (subst (Each (IsScopeOf (length s.scopes) (length s.symbols))) (sym is) (scopes_kept _ _ (stays s.symbols) s.scopes h.scopes))

-- one scope more, which a node opens
pub sound_opened : (s : Scoped) (n : ℕ) (i : ScopeId) (x : ScopeData) (p : ScopeId) (xs : List ScopeData) (es : List (ℕ × ScopeId)) → IsSound s → x.parent ≡ Some p → x.bindings ≡ [] → p.0 < length s.scopes → i.0 ≡ length s.scopes → xs ≡ s.scopes ++ x ∷ []
    → es ≡ insert_entry nat_cmp s.opened n i → IsSound (record s { scopes = xs; opened = es })
sound_opened s n i x p xs es h parent bindings outer number is put =
    let k : IsSound (record s { scopes = xs }) = sound_scope s x p xs h parent bindings outer is in
    let more : length xs ≡ suc (length s.scopes) = ap length is ∙ length_push s.scopes x in
    record {
      rooted = k.rooted;
      scopes = k.scopes;
      symbols = k.symbols;
      bodies = k.bodies;
      opened = subst (Each (λ e. e.1.0 < length xs)) (sym put) (each_inserted (λ (j : ScopeId). j.0 < length xs) nat_cmp s.opened n i k.opened (omega arith));
      declared = k.declared;
      named = k.named;
    }

-- other symbols, as many and in the same scopes
pub sound_symbols : (s : Scoped) (f : SymbolData → SymbolData) (i : ℕ) (ys : List SymbolData) → IsSound s → ((y : SymbolData) → (f y).scope ≡ y.scope) → ((y : SymbolData) → Each (λ x. x.0 < length s.scopes) y.bodies → Each (λ x. x.0 < length s.scopes) (f y).bodies) → ys ≡ changed_at i f s.symbols → IsSound (record s { symbols = ys })
sound_symbols s f i ys h same inner is =
    let long : length ys ≡ length s.symbols = ap length is ∙ length_changed f s.symbols i in
    let each : Each (λ y. y.scope.0 < length s.scopes) ys =
    subst (Each (λ y. y.scope.0 < length s.scopes)) (sym is) (each_changed _ f s.symbols i (λ y k. subst (λ (x : ScopeId). x.0 < length s.scopes) (sym (same y)) k) h.symbols) in
    record {
      rooted = h.rooted;
      scopes = scopes_more _ _ _ _ s.scopes (omega arith) (omega arith) h.scopes;
      symbols = each;
      bodies = subst (Each (λ y. Each (λ x. x.0 < length s.scopes) y.bodies)) (sym is) (each_changed _ f s.symbols i inner h.bodies);
      opened = h.opened;
      declared = each_more _ _ s.declared (λ e k. omega arith) h.declared;
      named = h.named;
    }

-- a declaration more of a symbol
pub sound_declared : (s : Scoped) (f : SymbolData → SymbolData) (i : SymbolId) (n : ℕ) (ys : List SymbolData) (es : List (ℕ × SymbolId)) → IsSound s → ((y : SymbolData) → (f y).scope ≡ y.scope) → ((y : SymbolData) → (f y).bodies ≡ y.bodies) → i.0 < length s.symbols → ys ≡ changed_at i.0 f s.symbols
    → es ≡ insert_entry nat_cmp s.declared n i → IsSound (record s { symbols = ys; declared = es })
sound_declared s f i n ys es h same kept live is put =
    let k : IsSound (record s { symbols = ys }) = sound_symbols s f i.0 ys h same (λ y j. subst (Each (λ x. x.0 < length s.scopes)) (sym (kept y)) j) is in
    let long : length ys ≡ length s.symbols = ap length is ∙ length_changed f s.symbols i.0 in
    record {
      rooted = k.rooted;
      scopes = k.scopes;
      symbols = k.symbols;
      bodies = k.bodies;
      opened = k.opened;
      declared = subst (Each (λ e. e.1.0 < length ys)) (sym put) (each_inserted (λ (j : SymbolId). j.0 < length ys) nat_cmp s.declared n i k.declared (omega arith));
      named = k.named;
    }

-- one symbol more, which its scope binds
pub sound_symbol : (s : Scoped) (n : ℕ) (i : SymbolId) (t : List ℕ) (y : SymbolData) (xs : List ScopeData) (ys : List SymbolData) (es : List (ℕ × SymbolId)) → IsSound s → y.scope.0 < length s.scopes → y.bodies ≡ [] → i.0 ≡ length s.symbols
    → xs ≡ bound_at y.scope.0 t i s.scopes → ys ≡ s.symbols ++ y ∷ [] → es ≡ insert_entry nat_cmp s.declared n i → IsSound (record s { scopes = xs; symbols = ys; declared = es })
sound_symbol s n i t y xs ys es h inside empty number bound is put =
    let more : length ys ≡ suc (length s.symbols) = ap length is ∙ length_push s.symbols y in
    let long : length xs ≡ length s.scopes = ap length bound ∙ length_changed _ s.scopes y.scope.0 in
    let before : Each (IsScopeOf (length xs) (length ys)) s.scopes = scopes_more _ _ _ _ s.scopes (omega arith) (omega arith) h.scopes in
    let live : i.0 < length ys = omega arith in
    record {
      rooted = omega arith;
      scopes = subst (Each (IsScopeOf (length xs) (length ys))) (sym bound)
          (each_changed (IsScopeOf (length xs) (length ys)) (λ x. record x { bindings = bind t i x.bindings }) s.scopes y.scope.0
          (λ x k. record { inside = k.inside; binds = each_inserted (λ (j : SymbolId). j.0 < length ys) (slice_cmp nat_cmp) x.bindings t i k.binds live }) before);
      symbols = subst (Each (λ z. z.scope.0 < length xs)) (sym is) (each_push _ s.symbols y (each_more _ _ s.symbols (λ z k. omega arith) h.symbols) (omega arith));
      bodies = subst (Each (λ z. Each (λ x. x.0 < length xs) z.bodies)) (sym is)
          (each_push _ s.symbols y (each_more _ _ s.symbols (λ z k. each_more _ _ z.bodies (λ x j. omega arith) k) h.bodies) (subst (Each (λ x. x.0 < length xs)) (sym empty) tt));
      opened = each_more _ _ s.opened (λ e k. omega arith) h.opened;
      declared = subst (Each (λ e. e.1.0 < length ys)) (sym put) (each_inserted (λ (j : SymbolId). j.0 < length ys) nat_cmp s.declared n i (each_more _ _ s.declared (λ e k. omega arith) h.declared) live);
      named = h.named;
    }

-- other references, as many
pub sound_references : (s : Scoped) (rs : List Slot) → IsSound s → length rs ≡ length s.references → IsSound (record s { references = rs })
sound_references s rs h same = record {
  rooted = h.rooted;
  scopes = h.scopes;
  symbols = h.symbols;
  bodies = h.bodies;
  opened = h.opened;
  declared = h.declared;
  named = each_more _ _ s.named (λ e k. omega arith) h.named;
}

-- one reference more
pub sound_reference : (s : Scoped) (n : ℕ) (i : ReferenceId) (r : Slot) (rs : List Slot) (es : List (ℕ × ReferenceId)) → IsSound s → i.0 ≡ length s.references → rs ≡ s.references ++ r ∷ []
    → es ≡ insert_entry nat_cmp s.named n i → IsSound (record s { references = rs; named = es })
sound_reference s n i r rs es h number is put =
    let more : length rs ≡ suc (length s.references) = ap length is ∙ length_push s.references r in
    record {
      rooted = h.rooted;
      scopes = h.scopes;
      symbols = h.symbols;
      bodies = h.bodies;
      opened = h.opened;
      declared = h.declared;
      named = subst (Each (λ e. e.1.0 < length rs)) (sym put) (each_inserted (λ (j : ReferenceId). j.0 < length rs) nat_cmp s.named n i (each_more _ _ s.named (λ e k. omega arith) h.named) (omega arith));
    }

-- what means a symbol, and no longer does, is no part of that
pub sound_meant : (s : Scoped) (r : ReferenceId) (o : Option SymbolId) (ys : List SymbolData) → IsSound s → ys ≡ meant_by r o s.symbols → IsSound (record s { symbols = ys })
sound_meant s r None ys h is = subst (λ zs. IsSound (record s { symbols = zs })) (sym is) h
sound_meant s r (Some i) ys h is = sound_symbols s _ i.0 ys h (λ y. refl) (λ y j. j) is

pub sound_forgotten : (s : Scoped) (r : ReferenceId) (o : Option SymbolId) (ys : List SymbolData) → IsSound s → ys ≡ forgotten_by r o s.symbols → IsSound (record s { symbols = ys })
sound_forgotten s r None ys h is = subst (λ zs. IsSound (record s { symbols = zs })) (sym is) h
sound_forgotten s r (Some i) ys h is = sound_symbols s _ i.0 ys h (λ y. refl) (λ y j. j) is

-- a body more of an enum
pub sound_body : (s : Scoped) (i : ℕ) (x : ScopeId) (ys : List SymbolData) → IsSound s → x.0 < length s.scopes → ys ≡ with_body_at i x s.symbols → IsSound (record s { symbols = ys })
sound_body s i x ys h live is = sound_symbols s (λ y. record y { bodies = y.bodies ++ x ∷ [] }) i ys h (λ y. refl) (λ y j. each_push _ y.bodies x j live) is

-- the constant of a member
pub sound_value : (s : Scoped) (i : ℕ) (v : Constant) (ys : List SymbolData) → IsSound s → ys ≡ with_value_at i v s.symbols → IsSound (record s { symbols = ys })
sound_value s i v ys h is = sound_symbols s (λ y. record y { value = Some v }) i ys h (λ y. refl) (λ y j. j) is

-- what is known of the bodies of a symbol
pub bodies_live : (s : Scoped) (i : ℕ) (y : SymbolData) → slice_get s.symbols i ≡ Some y → IsSound s → Each (λ x. x.0 < length s.scopes) y.bodies
bodies_live s i y at h = each_at (λ (z : SymbolData). Each (λ x. x.0 < length s.scopes) z.bodies) s.symbols i y at h.bodies
