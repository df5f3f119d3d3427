-- Tables of names against lists of declarations.
use denote.Ref.{Bor}
use Rattle.std.proofs.Common.{◌≡◌, ◌∙◌, refl, sym, ap, ℕ, ◌+◌, ◌<◌, ◌≤◌, List, [], ◌∷◌, length, drop, get_or, arith, Bool, true, false, ◌&&◌, ◌||◌, cond, if◌then◌else◌, Option, Some, true≢false}
use Rattle.std.specs.Cmp.Lexicographic.{bytes_decides}
use Rattle.std.specs.HashMap.{HashMap, Updates}
use Rattle.std.specs.Map.{IsKeyTest, KeepsOthers, lookup}
use Rattle.std.specs.Str.{bytes_eq}
use Rattle.oxt_names.proofs.Lists.{drop_at, drop_end}
use Rattle.oxt_names.specs.declared.ids.NodeId.{NodeId}
use Rattle.oxt_declares.specs.Declarations.{Declared, declared_view, declared_views, has, is_seen, shows}
use Rattle.oxt_scopes.specs.Scopes.{Level, beside, block_in, has_name, is_block_of, level, number_of}
use Rattle.oxt_scopes.specs.Stack.{block_at, level_of, name_in, number_at, seen_at, shows_seen}
use Rattle.oxt_declares.specs.declared.declaration.Declaration.{Declaration}
use Rattle.oxt_declares.specs.declared.declaration.Sight.{Sight}
use Rattle.oxt_declares.specs.declared.declaration.Sight.TheVariants as sight
use Rattle.oxt_declares.specs.declared.declaration.Sort.{Sort}
use Rattle.oxt_scopes.specs.declared.scope.Scope.{Scope}
use Rattle.oxt_scopes.specs.declared.scope.Seen.{Seen}

agree : (b c : Bool) → (c ≡ true → b ≡ true) → (b ≡ true → c ≡ true) → b ≡ c
agree true true h g = refl
agree true false h g = sym (g refl)
agree false true h g = h refl
agree false false h g = refl

-- What is equal to a key passes the test as the key does, and two keys that pass it are equal.
module _ {K : Type 0} (eq : K → K → Bool) (test : K → Bool) (same : (k x : K) → eq k x ≡ true → test x ≡ test k) (apart : (k x : K) → test k ≡ true → test x ≡ true → eq k x ≡ true) where
  one_key : IsKeyTest eq test
  one_key x y h = agree (test y) (eq x y) (λ g. same x y g ∙ h) (λ g. apart x y h g)

  module _ {V : Type 0} (k : K) where
    by_key : test k ≡ true → (es : List (K × V)) → lookup test es ≡ lookup (eq k) es
    by_key h [] = refl
    by_key h (e ∷ es) = ap (λ b. cond b (Some e.1) (lookup test es)) (one_key k e.0 h) ∙ ap (cond (eq k e.0) (Some e.1)) (by_key h es)

    others : test k ≡ false → (old new : List (K × V)) → KeepsOthers eq (eq k) old new → lookup test new ≡ lookup test old
    unfolding KeepsOthers
    others h old new keeps = keeps test one_key (λ x g. same k x g ∙ h)

    -- What is found once a value is put at the key: the value, if the key passes.
    pub look_put : {S : Type 0} (v : V) (old new : HashMap K V S) → Updates eq old new k (Some v) → lookup test new.entries ≡ cond (test k) (Some v) (lookup test old.entries)
    look_put v old new put = by (test k) refl
      where
        by : (b : Bool) → test k ≡ b → lookup test new.entries ≡ cond b (Some v) (lookup test old.entries)
        by true h = by_key h new.entries ∙ put.1
        by false h = others h old.entries new.entries put.3

-- two texts that are equal to one are equal
bytes_same : (t a b : List ℕ) → bytes_eq t a ≡ true → bytes_eq t b ≡ true → bytes_eq a b ≡ true
bytes_same t a b h g = (bytes_decides a b).1 (sym ((bytes_decides t a).0 h) ∙ (bytes_decides t b).0 g)

bytes_swap : (t a b : List ℕ) → bytes_eq a b ≡ true → bytes_eq t b ≡ bytes_eq t a
bytes_swap t a b h = ap (bytes_eq t) (sym ((bytes_decides a b).0 h))

abbrev pub same_names : Bor (List ℕ) → Bor (List ℕ) → Bool
same_names x y = bytes_eq x.now y.now

-- names, as a table has them
abbrev pub Names : Type 0 → Type 0
Names S = HashMap (Bor (List ℕ)) Seen S

pub name_put : {S : Type 0} (t : List ℕ) (k : Bor (List ℕ)) (v : Seen) (old new : Names S) → Updates same_names old new k (Some v) → seen_at t new.entries ≡ cond (bytes_eq t k.now) (Some v) (seen_at t old.entries)
name_put t k v old new put = look_put same_names (λ x. bytes_eq t x.now) (λ j x h. bytes_swap t j.now x.now h) (λ j x h g. bytes_same t j.now x.now h g) k v old new put

-- a name that is declared once more
abbrev pub Adds : Sort → List ℕ → List (Bor (List ℕ) × Seen) → Seen → Type 0
Adds o t es v = (v.value ≡ (shows sight.Value o || shows_seen sight.Value (seen_at t es))) × (v.type_parameter ≡ (shows sight.TypeParameter o || shows_seen sight.TypeParameter (seen_at t es)))

at_name : (s : Sight) (o : Sort) (t : List ℕ) (es : List (Bor (List ℕ) × Seen)) (v : Seen) → Adds o t es v → shows_seen s (Some v) ≡ (shows s o || shows_seen s (seen_at t es))
at_name sight.Value o t es v h = h.0
at_name sight.Type o t es v h = refl
at_name sight.TypeParameter o t es v h = h.1

pub name_added : {S : Type 0} (o : Sort) (k : Bor (List ℕ)) (v : Seen) (old new : Names S) → Adds o k.now old.entries v → Updates same_names old new k (Some v) → (s : Sight) (t : List ℕ)
    → shows_seen s (seen_at t new.entries) ≡ ((bytes_eq t k.now && shows s o) || shows_seen s (seen_at t old.entries))
name_added o k v old new adds put s t = ap (shows_seen s) (name_put t k v old new put) ∙ step (bytes_eq t k.now) refl
  where
    step : (b : Bool) → bytes_eq t k.now ≡ b → shows_seen s (cond b (Some v) (seen_at t old.entries)) ≡ ((b && shows s o) || shows_seen s (seen_at t old.entries))
    step true e = at_name s o k.now old.entries v adds ∙ ap (λ u. shows s o || shows_seen s (seen_at u old.entries)) (sym ((bytes_decides t k.now).0 e))
    step false e = refl

-- names, from the last to the first
abbrev pub NamesFrom : ℕ → List Declaration → List (Bor (List ℕ) × Seen) → Type 0
NamesFrom i ds es = (s : Sight) (t : List ℕ) → shows_seen s (seen_at t es) ≡ has s t (declared_views (drop i ds))

pub names_none : (ds : List Declaration) (es : List (Bor (List ℕ) × Seen)) → es ≡ [] → NamesFrom (length ds) ds es
names_none ds es empty s t = ap (λ xs. shows_seen s (seen_at t xs)) empty ∙ ap (λ xs. has s t (declared_views xs)) (sym (drop_end ds (length ds) (omega arith)))

pub names_more : (ds : List Declaration) (i j : ℕ) (d : Declaration) (old new : List (Bor (List ℕ) × Seen)) → i ≡ j + 1 → j < length ds → d ≡ get_or ds j d
    → ((s : Sight) (t : List ℕ) → shows_seen s (seen_at t new) ≡ (is_seen s t (declared_view d) || shows_seen s (seen_at t old))) → NamesFrom i ds old → NamesFrom j ds new
names_more ds i j d old new next within at added so_far s t =
    added s t ∙ ap (λ b. is_seen s t (declared_view d) || b) (so_far s t ∙ ap (λ n. has s t (declared_views (drop n ds))) next)
    ∙ sym (ap (λ xs. has s t (declared_views xs)) (drop_at ds j d within at))

pub names_all : (ds : List Declaration) (i : ℕ) (es : List (Bor (List ℕ) × Seen)) → i ≤ 0 → NamesFrom i ds es → (s : Sight) (t : List ℕ) → shows_seen s (seen_at t es) ≡ has s t (declared_views ds)
names_all ds i es past so_far s t = let at : i ≡ 0 = omega arith in so_far s t ∙ ap (λ n. has s t (declared_views (drop n ds))) at

-- members of blocks of enums, by the names of the enum and of the member
abbrev pub Pair : Type 0
Pair = Bor (List ℕ) × Bor (List ℕ)

abbrev pub same_pairs : Pair → Pair → Bool
same_pairs x y = bytes_eq x.0.now y.0.now && bytes_eq x.1.now y.1.now

and_both : (b c : Bool) → (b && c) ≡ true → (b ≡ true) × (c ≡ true)
and_both true c h = (refl, h)
and_both false c h = absurd (true≢false (sym h))

both_and : (b c : Bool) → b ≡ true → c ≡ true → (b && c) ≡ true
both_and b c h g = ap (λ x. x && c) h ∙ g

number_cond : (b : Bool) (n : NodeId) (o : Option NodeId) → number_at (cond b (Some n) o) ≡ cond b (Some n.0) (number_at o)
number_cond true n o = refl
number_cond false n o = refl

-- the test of a pair of texts
abbrev is_pair : List ℕ → List ℕ → Pair → Bool
is_pair e t x = bytes_eq e x.0.now && bytes_eq t x.1.now

pair_swap : (e t : List ℕ) (k x : Pair) → same_pairs k x ≡ true → is_pair e t x ≡ is_pair e t k
pair_swap e t k x h =
    let both = and_both (bytes_eq k.0.now x.0.now) (bytes_eq k.1.now x.1.now) h in
    let first = bytes_swap e k.0.now x.0.now both.0 in
    let second = bytes_swap t k.1.now x.1.now both.1 in
    λ j. first j && second j

pair_same : (e t : List ℕ) (k x : Pair) → is_pair e t k ≡ true → is_pair e t x ≡ true → same_pairs k x ≡ true
pair_same e t k x h g =
    let p = and_both (bytes_eq e k.0.now) (bytes_eq t k.1.now) h in
    let q = and_both (bytes_eq e x.0.now) (bytes_eq t x.1.now) g in
    both_and (bytes_eq k.0.now x.0.now) (bytes_eq k.1.now x.1.now) (bytes_same e k.0.now x.0.now p.0 q.0) (bytes_same t k.1.now x.1.now p.1 q.1)

-- blocks, as a table has them
abbrev pub Blocks : Type 0 → Type 0
Blocks S = HashMap Pair NodeId S

pub pair_put : {S : Type 0} (e t : List ℕ) (k : Pair) (n : NodeId) (old new : Blocks S) → Updates same_pairs old new k (Some n)
    → block_at e t new.entries ≡ cond (bytes_eq e k.0.now && bytes_eq t k.1.now) (Some n.0) (block_at e t old.entries)
pair_put e t k n old new put =
    ap number_at (look_put same_pairs (is_pair e t) (pair_swap e t) (pair_same e t) k n old new put)
    ∙ number_cond (is_pair e t k) n (lookup (is_pair e t) old.entries)

-- the members from a place on have been put
abbrev pub MembersFrom : ℕ → List Declaration → List ℕ → ℕ → List (Pair × NodeId) → List (Pair × NodeId) → Type 0
MembersFrom i ds m n old new = (e t : List ℕ) → block_at e t new ≡ (if has_name t (declared_views (drop i ds)) && bytes_eq e m then Some n else block_at e t old)

pub members_none : (ds : List Declaration) (m : List ℕ) (n : ℕ) (es : List (Pair × NodeId)) → MembersFrom (length ds) ds m n es es
members_none ds m n es e t = sym (ap (λ xs. if has_name t (declared_views xs) && bytes_eq e m then Some n else block_at e t es) (drop_end ds (length ds) (omega arith)))

one_member : (a b c : Bool) (n : ℕ) (old : Option ℕ) → cond (b && a) (Some n) (cond (c && b) (Some n) old) ≡ cond ((a || c) && b) (Some n) old
one_member true true c n old = refl
one_member true false true n old = refl
one_member true false false n old = refl
one_member false true c n old = refl
one_member false false true n old = refl
one_member false false false n old = refl

pub members_more : {S : Type 0} (ds : List Declaration) (i j : ℕ) (d : Declaration) (m : Bor (List ℕ)) (n : NodeId) (old : List (Pair × NodeId)) (before after : Blocks S) → i ≡ j + 1 → j < length ds → d ≡ get_or ds j d
    → Updates same_pairs before after (m, d.name) (Some n) → MembersFrom i ds m.now n.0 old before.entries → MembersFrom j ds m.now n.0 old after.entries
members_more ds i j d m n old before after next within at put so_far e t =
    pair_put e t (m, d.name) n before after put
    ∙ ap (cond (bytes_eq e m.now && bytes_eq t d.name.now) (Some n.0)) (so_far e t ∙ ap (λ k. if has_name t (declared_views (drop k ds)) && bytes_eq e m.now then Some n.0 else block_at e t old) next)
    ∙ one_member (bytes_eq t d.name.now) (bytes_eq e m.now) (has_name t (declared_views (drop (j + 1) ds))) n.0 (block_at e t old)
    ∙ sym (ap (λ xs. if has_name t (declared_views xs) && bytes_eq e m.now then Some n.0 else block_at e t old) (drop_at ds j d within at))

pub members_all : (ds : List Declaration) (i : ℕ) (m : List ℕ) (n : ℕ) (old new : List (Pair × NodeId)) → i ≤ 0 → MembersFrom i ds m n old new → MembersFrom 0 ds m n old new
members_all ds i m n old new past so_far e t = let at : i ≡ 0 = omega arith in so_far e t ∙ ap (λ k. if has_name t (declared_views (drop k ds)) && bytes_eq e m then Some n else block_at e t old) at

-- blocks, from the last to the first
abbrev pub BlocksFrom : ℕ → List Declaration → List (Pair × NodeId) → Type 0
BlocksFrom i ds es = (e t : List ℕ) → block_at e t es ≡ block_in e t (declared_views (drop i ds))

pub blocks_none : (ds : List Declaration) (es : List (Pair × NodeId)) → es ≡ [] → BlocksFrom (length ds) ds es
blocks_none ds es empty e t = ap (block_at e t) empty ∙ ap (λ xs. block_in e t (declared_views xs)) (sym (drop_end ds (length ds) (omega arith)))

pub blocks_more : (ds : List Declaration) (i j : ℕ) (d : Declaration) (old new : List (Pair × NodeId)) → i ≡ j + 1 → j < length ds → d ≡ get_or ds j d
    → ((e t : List ℕ) → block_at e t new ≡ (if is_block_of e t (declared_view d) then Some (number_of (declared_view d).body) else block_at e t old)) → BlocksFrom i ds old → BlocksFrom j ds new
blocks_more ds i j d old new next within at added so_far e t =
    added e t ∙ ap (λ b. if is_block_of e t (declared_view d) then Some (number_of (declared_view d).body) else b) (so_far e t ∙ ap (λ n. block_in e t (declared_views (drop n ds))) next)
    ∙ sym (ap (λ xs. block_in e t (declared_views xs)) (drop_at ds j d within at))

pub blocks_all : (ds : List Declaration) (i : ℕ) (es : List (Pair × NodeId)) → i ≤ 0 → BlocksFrom i ds es → (e t : List ℕ) → block_at e t es ≡ block_in e t (declared_views ds)
blocks_all ds i es past so_far e t = let at : i ≡ 0 = omega arith in so_far e t ∙ ap (λ n. block_in e t (declared_views (drop n ds))) at

-- A scope whose tables are those of its declarations is that scope.
pub same_level : (s : Scope) (n : ℕ) (ds : List Declared) (e : Option (List ℕ)) → s.number.0 ≡ n → ((k : Sight) (t : List ℕ) → shows_seen k (seen_at t s.names.entries) ≡ has k t ds) → ((d t : List ℕ) → block_at d t s.blocks.entries ≡ block_in d t ds) → name_in s.enum_name ≡ e
    → (ls : List Level) → level_of s ls ≡ level n ds e ls
same_level s n ds e number names blocks enum_name ls = λ j. record {
  find = λ k t. if names k t j then Some (number j) else beside (enum_name j) ls t;
  block = λ d t. blocks d t j;
}

-- the scope that declares the same
pub level_as : (s : Scope) (n : ℕ) (ds es : List Declared) (e : Option (List ℕ)) → ds ≡ es → ((ls : List Level) → level_of s ls ≡ level n ds e ls) → (ls : List Level) → level_of s ls ≡ level n es e ls
level_as s n ds es e same is ls = is ls ∙ ap (λ xs. level n xs e ls) same
