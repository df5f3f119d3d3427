-- Members with the names of earlier ones, one after another.
use denote.Ref.{Bor}
use Rattle.std.proofs.Common.{◌≡◌, ◌∙◌, refl, sym, ap, ℕ, ◌+◌, ◌<◌, ◌≤◌, List, [], ◌∷◌, ◌++◌, map, drop, take, length, get_or, Bool, true, false, cond, ◌&&◌, ◌||◌, ◌==◌, Some, None}
use Rattle.std.proofs.lemmas.Cmp.{nat_list_eq_equiv}
use Rattle.std.proofs.lemmas.List.{map-append, take_more}
use Rattle.std.proofs.lemmas.List.Folds.{list_any-append}
use Rattle.std.specs.Cmp.{nat_eq_equiv}
use Rattle.std.specs.HashSet.{HashSet, Updates}
use Rattle.std.specs.List.{list_any}
use Rattle.std.specs.Prelude.{if◌then◌else◌}
use Rattle.std.specs.Str.{bytes_eq}
use Rattle.oxt_enum_checks.specs.Keys.{Key, is_noted, is_repeated_in, key_of, key_view, keys_in, same_key}
use Rattle.oxt_enum_checks.specs.Members.{Member, member_view, member_views}
use Rattle.oxt_enum_checks.specs.Misnamed.{first_repeated, is_repeated}
use Rattle.oxt_enum_checks.specs.declared.members.EnumMember.{EnumMember}
use Rattle.oxt_names.proofs.Lists.{drop_at, drop_end}

-- the symbol of an enum and the name of a member, as the program keeps them
abbrev pub Name : Type 0
Name = ℕ × Bor (List ℕ)

abbrev pub same_names : Name → Name → Bool
same_names a b = a.0 == b.0 && bytes_eq a.1.now b.1.now

-- a test on a list of images
any_image : {A B : Type 0} (p : B → Bool) (f : A → B) (xs : List A) → list_any p (map f xs) ≡ list_any (λ x. p (f x)) xs
any_image p f [] = refl
any_image p f (x ∷ xs) = ap (λ b. p (f x) || b) (any_image p f xs)

-- a name is among those that the program keeps
pub noted_keys : (k : Name) (ks : List Name) → list_any (same_names k) ks ≡ is_noted (keys_in ks) (key_view k)
noted_keys k ks = sym (any_image (same_key (key_view k)) key_view ks)

-- a key as the program keeps it
abbrev kept : Key → Name
kept k = (k.0, record { ref_ptr = (0, 0); now = k.1 })

turned : (k : Name) (q : Key) → same_names k (kept q) ≡ same_key q (key_view k)
turned k q = λ i. nat_eq_equiv.symm k.0 q.0 i && nat_list_eq_equiv.symm k.1.now q.1 i

either : (a b : Bool) → cond b true a ≡ (a || b)
either true true = refl
either true false = refl
either false true = refl
either false false = refl

-- a name that is added to them
pub key_added : {S : Type 0} (k : Name) (old new : HashSet Name S) → Updates same_names old new k true → (q : Key) → is_noted (keys_in new.keys) q ≡ (is_noted (keys_in old.keys) q || same_key q (key_view k))
key_added k old new put q =
    sym (noted_keys (kept q) new.keys) ∙ put.0 (kept q) ∙ either (list_any (same_names (kept q)) old.keys) (same_names k (kept q))
    ∙ ap (λ b. b || same_names k (kept q)) (noted_keys (kept q) old.keys) ∙ ap (λ b. is_noted (keys_in old.keys) q || b) (turned k q)

-- a member that has not the name of its enum
pub repeated_else : (b r : Bool) (k : Name) (ks : List Name) (m : Member) → b ≡ false → b ≡ bytes_eq m.name m.around.name → r ≡ list_any (same_names k) ks → key_view k ≡ key_of m → r ≡ is_repeated_in (keys_in ks) m
repeated_else b r k ks m other is has key =
    has ∙ noted_keys k ks ∙ ap (is_noted (keys_in ks)) key ∙ ap (λ c. c || is_noted (keys_in ks) (key_of m)) (sym other ∙ is)

-- The names of the first members are kept, and none of these is repeated.
pub record IsNoted (ms : List EnumMember) (i : ℕ) (ks : List Name) : Type 0 where
  pub names : (k : Key) → is_noted (keys_in ks) k ≡ is_noted (map key_of (member_views (take i ms))) k
  pub rest : first_repeated [] (member_views ms) ≡ first_repeated (member_views (take i ms)) (member_views (drop i ms))

pub noted_none : (ms : List EnumMember) (ks : List Name) → ks ≡ [] → IsNoted ms 0 ks
noted_none ms ks empty = record { names = λ k. ap (λ xs. is_noted (keys_in xs) k) empty; rest = refl }

-- what the kept names say of a member is what the members before it say
repeated_as : (before : List Member) (ks : List Key) (m : Member) → ((k : Key) → is_noted ks k ≡ is_noted (map key_of before) k) → is_repeated_in ks m ≡ is_repeated before m
repeated_as before ks m are = ap (λ b. bytes_eq m.name m.around.name || b) (are (key_of m) ∙ any_image (same_key (key_of m)) key_of before)

first_at : (ms : List EnumMember) (i : ℕ) (m : EnumMember) (ks : List Name) (b : Bool) → i < length ms → m ≡ get_or ms i m → b ≡ is_repeated_in (keys_in ks) (member_view m) → IsNoted ms i ks
    → first_repeated [] (member_views ms) ≡ (if b then Some m.node.0 else first_repeated (member_views (take i ms) ++ member_view m ∷ []) (member_views (drop (i + 1) ms)))
first_at ms i m ks b within at is so_far =
    let before = member_views (take i ms) in
    so_far.rest ∙ ap (λ xs. first_repeated before (member_views xs)) (drop_at ms i m within at)
    ∙ ap (λ c. if c then Some m.node.0 else first_repeated (before ++ member_view m ∷ []) (member_views (drop (i + 1) ms))) (sym (is ∙ repeated_as before (keys_in ks) (member_view m) so_far.names))

pub noted_found : (ms : List EnumMember) (i : ℕ) (m : EnumMember) (ks : List Name) → i < length ms → m ≡ get_or ms i m → true ≡ is_repeated_in (keys_in ks) (member_view m) → IsNoted ms i ks → Some m.node.0 ≡ first_repeated [] (member_views ms)
noted_found ms i m ks within at is so_far = sym (first_at ms i m ks true within at is so_far)

taken : (ms : List EnumMember) (i : ℕ) (m : EnumMember) → i < length ms → m ≡ get_or ms i m → member_views (take (i + 1) ms) ≡ member_views (take i ms) ++ member_view m ∷ []
taken ms i m within at =
    ap member_views (take_more ms i m within) ∙ map-append member_view (take i ms) (get_or ms i m ∷ []) ∙ ap (λ x. member_views (take i ms) ++ member_view x ∷ []) (sym at)

or-false : (b : Bool) → (b || false) ≡ b
or-false true = refl
or-false false = refl

-- one name more is noted
noted_end : (k j : Key) (ks : List Key) → is_noted (ks ++ j ∷ []) k ≡ (is_noted ks k || same_key k j)
noted_end k j ks = list_any-append (same_key k) ks (j ∷ []) ∙ ap (λ b. is_noted ks k || b) (or-false (same_key k j))

pub noted_next : (ms : List EnumMember) (i : ℕ) (m : EnumMember) (old new : List Name) → i < length ms → m ≡ get_or ms i m → false ≡ is_repeated_in (keys_in old) (member_view m) → ((k : Key) → is_noted (keys_in new) k ≡ (is_noted (keys_in old) k || same_key k (key_of (member_view m)))) → IsNoted ms i old → IsNoted ms (i + 1) new
noted_next ms i m old new within at is put so_far = record {
  names =
      λ k.
      put k ∙ ap (λ b. b || same_key k (key_of (member_view m))) (so_far.names k)
      ∙ sym (noted_end k (key_of (member_view m)) (map key_of (member_views (take i ms))))
      ∙ ap (λ ks. is_noted ks k) (sym (ap (map key_of) (taken ms i m within at) ∙ map-append key_of (member_views (take i ms)) (member_view m ∷ [])));
  rest =
      first_at ms i m old false within at is so_far
      ∙ ap (λ xs. first_repeated xs (member_views (drop (i + 1) ms))) (sym (taken ms i m within at));
}

pub noted_all : (ms : List EnumMember) (i : ℕ) (ks : List Name) → length ms ≤ i → IsNoted ms i ks → None ≡ first_repeated [] (member_views ms)
noted_all ms i ks past so_far = sym (so_far.rest ∙ ap (λ xs. first_repeated (member_views (take i ms)) (member_views xs)) (drop_end ms i past))

pub ruleset steps = (noted_none, noted_found, noted_all)
