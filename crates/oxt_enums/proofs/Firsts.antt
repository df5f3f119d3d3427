-- Tables in which what is put first at a key stays.
use Rattle.std.proofs.Common.{◌≡◌, ◌∙◌, refl, sym, ap, ℕ, List, [], ◌∷◌, Bool, true, false, ◌&&◌, cond, Option, Some, None, true≢false}
use Rattle.std.proofs.lemmas.Bool.{eqb-true, eq-eqb}
use Rattle.std.specs.Cmp.Lexicographic.{bytes_decides}
use Rattle.std.specs.Map.{IsKeyTest, KeepsOthers, lookup}
use Rattle.std.specs.Option.{option_or}
use Rattle.std.specs.Prelude.{◌==◌, if◌then◌else◌, is_some, option_map}
use Rattle.std.specs.Str.{bytes_eq}
use Rattle.oxt_enums.specs.Tables.{Name, Path, at_name, at_number, at_path}

-- the clause on the entries of a map in which a key came to have a value
abbrev pub Puts : {K V : Type 0} → (K → K → Bool) → K → V → List (K × V) → List (K × V) → Type 0
Puts {K} eq k v es new = ((q : K) → lookup (eq q) new ≡ cond (eq k q) (Some v) (lookup (eq q) es)) × (lookup (eq k) new ≡ Some v) × ((q : K) → eq k q ≡ false → lookup (eq q) new ≡ lookup (eq q) es) × KeepsOthers eq (eq k) es new

agree : (b c : Bool) → (c ≡ true → b ≡ true) → (b ≡ true → c ≡ true) → b ≡ c
agree true true h g = refl
agree true false h g = sym (g refl)
agree false true h g = h refl
agree false false h g = refl

-- What is equal to a key passes the test as the key does, and two keys that pass it are equal.
module _ {K : Type 0} (eq : K → K → Bool) (test : K → Bool) (same : (k x : K) → eq k x ≡ true → test x ≡ test k) (apart : (k x : K) → test k ≡ true → test x ≡ true → eq k x ≡ true) where
  one_key : IsKeyTest eq test
  one_key x y h = agree (test y) (eq x y) (λ g. same x y g ∙ h) (λ g. apart x y h g)

  module _ {V : Type 0} (k : K) where
    found_same : test k ≡ true → (es : List (K × V)) → lookup test es ≡ lookup (eq k) es
    found_same h [] = refl
    found_same h (e ∷ es) = ap (λ b. cond b (Some e.1) (lookup test es)) (one_key k e.0 h) ∙ ap (cond (eq k e.0) (Some e.1)) (found_same h es)

    others : (es new : List (K × V)) → KeepsOthers eq (eq k) es new → test k ≡ false → lookup test new ≡ lookup test es
    unfolding KeepsOthers
    others es new keeps h = keeps test one_key (λ x g. same k x g ∙ h)

    -- What is found once an entry is put: its value, for a key that it has.
    look_put : (v : V) (es new : List (K × V)) → Puts eq k v es new → lookup test new ≡ cond (test k) (Some v) (lookup test es)
    look_put v es new puts = by (test k) refl
      where
        by : (b : Bool) → test k ≡ b → lookup test new ≡ cond b (Some v) (lookup test es)
        by true h = found_same h new ∙ puts.1
        by false h = others es new puts.3 h

    stays : (v : V) (b : Bool) (o : Option V) → (b ≡ true → is_some o ≡ true) → o ≡ option_or o (if b then Some v else None)
    stays v true (Some w) h = refl
    stays v true None h = absurd (true≢false (sym (h refl)))
    stays v false (Some w) h = refl
    stays v false None h = refl

    comes : (v : V) (b : Bool) (o : Option V) → (b ≡ true → is_some o ≡ false) → cond b (Some v) o ≡ option_or o (if b then Some v else None)
    comes v true (Some w) h = absurd (true≢false (h refl))
    comes v true None h = refl
    comes v false (Some w) h = refl
    comes v false None h = refl

    -- Where the key is there, the table is as it is.
    kept : (v : V) (es : List (K × V)) → is_some (lookup (eq k) es) ≡ true → lookup test es ≡ option_or (lookup test es) (if test k then Some v else None)
    kept v es there = stays v (test k) (lookup test es) (λ h. ap is_some (found_same h es) ∙ there)

    -- Where it is not, the value comes to it.
    put : (v : V) (es new : List (K × V)) → is_some (lookup (eq k) es) ≡ false → Puts eq k v es new → lookup test new ≡ option_or (lookup test es) (if test k then Some v else None)
    put v es new absent puts = look_put v es new puts ∙ comes v (test k) (lookup test es) (λ h. ap is_some (found_same h es) ∙ absent)

and_both : (b c : Bool) → (b && c) ≡ true → (b ≡ true) × (c ≡ true)
and_both true c h = (refl, h)
and_both false c h = absurd (true≢false (sym h))

both_and : (b c : Bool) → b ≡ true → c ≡ true → (b && c) ≡ true
both_and b c h g = ap (λ x. x && c) h ∙ g

bytes_same : (t a b : List ℕ) → bytes_eq t a ≡ true → bytes_eq t b ≡ true → bytes_eq a b ≡ true
bytes_same t a b h g = (bytes_decides a b).1 (sym ((bytes_decides t a).0 h) ∙ (bytes_decides t b).0 g)

bytes_swap : (t a b : List ℕ) → bytes_eq a b ≡ true → bytes_eq t b ≡ bytes_eq t a
bytes_swap t a b h = ap (bytes_eq t) (sym ((bytes_decides a b).0 h))

pub number_same : (t a b : ℕ) → (t == a) ≡ true → (t == b) ≡ true → (a == b) ≡ true
number_same t a b h g = eq-eqb a b (sym (eqb-true t a h) ∙ eqb-true t b g)

pub number_swap : (t a b : ℕ) → (a == b) ≡ true → (t == b) ≡ (t == a)
number_swap t a b h = ap (λ x. t == x) (sym (eqb-true a b h))

abbrev pub same_numbers : ℕ → ℕ → Bool
same_numbers a b = a == b

abbrev pub same_names : Name → Name → Bool
same_names a b = a.0 == b.0 && bytes_eq a.1.now b.1.now

abbrev pub same_paths : Path → Path → Bool
same_paths a b = (a.0 == b.0 && bytes_eq a.1.now b.1.now) && bytes_eq a.2.now b.2.now

name_same : (n : ℕ) (t : List ℕ) (k x : Name) → same_names k x ≡ true → (n == x.0 && bytes_eq t x.1.now) ≡ (n == k.0 && bytes_eq t k.1.now)
name_same n t k x h =
    let both = and_both (k.0 == x.0) (bytes_eq k.1.now x.1.now) h in
    let first = number_swap n k.0 x.0 both.0 in
    let second = bytes_swap t k.1.now x.1.now both.1 in
    λ j. first j && second j

name_apart : (n : ℕ) (t : List ℕ) (k x : Name) → (n == k.0 && bytes_eq t k.1.now) ≡ true → (n == x.0 && bytes_eq t x.1.now) ≡ true → same_names k x ≡ true
name_apart n t k x h g =
    let p = and_both (n == k.0) (bytes_eq t k.1.now) h in
    let q = and_both (n == x.0) (bytes_eq t x.1.now) g in
    both_and (k.0 == x.0) (bytes_eq k.1.now x.1.now) (number_same n k.0 x.0 p.0 q.0) (bytes_same t k.1.now x.1.now p.1 q.1)

abbrev front : Path → Name
front p = (p.0, p.1)

path_same : (n : ℕ) (e t : List ℕ) (k x : Path) → same_paths k x ≡ true → ((n == x.0 && bytes_eq e x.1.now) && bytes_eq t x.2.now) ≡ ((n == k.0 && bytes_eq e k.1.now) && bytes_eq t k.2.now)
path_same n e t k x h =
    let both = and_both (same_names (front k) (front x)) (bytes_eq k.2.now x.2.now) h in
    let first = name_same n e (front k) (front x) both.0 in
    let second = bytes_swap t k.2.now x.2.now both.1 in
    λ j. first j && second j

path_apart : (n : ℕ) (e t : List ℕ) (k x : Path) → ((n == k.0 && bytes_eq e k.1.now) && bytes_eq t k.2.now) ≡ true → ((n == x.0 && bytes_eq e x.1.now) && bytes_eq t x.2.now) ≡ true → same_paths k x ≡ true
path_apart n e t k x h g =
    let p = and_both (n == k.0 && bytes_eq e k.1.now) (bytes_eq t k.2.now) h in
    let q = and_both (n == x.0 && bytes_eq e x.1.now) (bytes_eq t x.2.now) g in
    both_and (same_names (front k) (front x)) (bytes_eq k.2.now x.2.now) (name_apart n e (front k) (front x) p.0 q.0) (bytes_same t k.2.now x.2.now p.1 q.1)

-- the tests of a number, of a number with a name, and of a number with two names
abbrev is_number : ℕ → ℕ → Bool
is_number q x = q == x

abbrev is_name : ℕ → List ℕ → Name → Bool
is_name n t x = n == x.0 && bytes_eq t x.1.now

abbrev is_path : ℕ → List ℕ → List ℕ → Path → Bool
is_path n e t x = (n == x.0 && bytes_eq e x.1.now) && bytes_eq t x.2.now

module _ {V : Type 0} (v : V) where
  pub number_kept : (k q : ℕ) (es : List (ℕ × V)) → is_some (lookup (same_numbers k) es) ≡ true → at_number q es ≡ option_or (at_number q es) (if q == k then Some v else None)
  number_kept k q es there = kept same_numbers (is_number q) (number_swap q) (number_same q) k v es there

  pub number_put : (k q : ℕ) (es new : List (ℕ × V)) → is_some (lookup (same_numbers k) es) ≡ false → Puts same_numbers k v es new → at_number q new ≡ option_or (at_number q es) (if q == k then Some v else None)
  number_put k q es new absent puts = put same_numbers (is_number q) (number_swap q) (number_same q) k v es new absent puts

  pub name_stays : (k : Name) (n : ℕ) (t : List ℕ) (es : List (Name × V)) → is_some (lookup (same_names k) es) ≡ true → at_name n t es ≡ option_or (at_name n t es) (if n == k.0 && bytes_eq t k.1.now then Some v else None)
  name_stays k n t es there = kept same_names (is_name n t) (name_same n t) (name_apart n t) k v es there

  pub name_comes : (k : Name) (n : ℕ) (t : List ℕ) (es new : List (Name × V)) → is_some (lookup (same_names k) es) ≡ false → Puts same_names k v es new → at_name n t new ≡ option_or (at_name n t es) (if n == k.0 && bytes_eq t k.1.now then Some v else None)
  name_comes k n t es new absent puts = put same_names (is_name n t) (name_same n t) (name_apart n t) k v es new absent puts

  pub path_kept : (k : Path) (n : ℕ) (e t : List ℕ) (es : List (Path × V)) → is_some (lookup (same_paths k) es) ≡ true → at_path n e t es ≡ option_or (at_path n e t es) (if (n == k.0 && bytes_eq e k.1.now) && bytes_eq t k.2.now then Some v else None)
  path_kept k n e t es there = kept same_paths (is_path n e t) (path_same n e t) (path_apart n e t) k v es there

  pub path_put : (k : Path) (n : ℕ) (e t : List ℕ) (es new : List (Path × V)) → is_some (lookup (same_paths k) es) ≡ false → Puts same_paths k v es new → at_path n e t new ≡ option_or (at_path n e t es) (if (n == k.0 && bytes_eq e k.1.now) && bytes_eq t k.2.now then Some v else None)
  path_put k n e t es new absent puts = put same_paths (is_path n e t) (path_same n e t) (path_apart n e t) k v es new absent puts

-- the same of what is read of the values
module _ {V W : Type 0} (f : V → W) (v : V) where
  read_or : (o : Option V) (b : Bool) → option_map f (option_or o (if b then Some v else None)) ≡ option_or (option_map f o) (if b then Some (f v) else None)
  read_or (Some w) b = refl
  read_or None true = refl
  read_or None false = refl

  pub name_kept : (k : Name) (n : ℕ) (t : List ℕ) (es : List (Name × V)) → is_some (lookup (same_names k) es) ≡ true → option_map f (at_name n t es) ≡ option_or (option_map f (at_name n t es)) (if n == k.0 && bytes_eq t k.1.now then Some (f v) else None)
  name_kept k n t es there = ap (option_map f) (name_stays v k n t es there) ∙ read_or (at_name n t es) (is_name n t k)

  pub name_put : (k : Name) (n : ℕ) (t : List ℕ) (es new : List (Name × V)) → is_some (lookup (same_names k) es) ≡ false → Puts same_names k v es new → option_map f (at_name n t new) ≡ option_or (option_map f (at_name n t es)) (if n == k.0 && bytes_eq t k.1.now then Some (f v) else None)
  name_put k n t es new absent puts = ap (option_map f) (name_comes v k n t es new absent puts) ∙ read_or (at_name n t es) (is_name n t k)

-- what is found once a value is put
pub number_look : {V : Type 0} (k : ℕ) (v : V) (q : ℕ) (es new : List (ℕ × V)) → Puts same_numbers k v es new → at_number q new ≡ cond (q == k) (Some v) (at_number q es)
number_look k v q es new puts = look_put same_numbers (is_number q) (number_swap q) (number_same q) k v es new puts

pub name_look : {V : Type 0} (k : Name) (v : V) (n : ℕ) (t : List ℕ) (es new : List (Name × V)) → Puts same_names k v es new → at_name n t new ≡ cond (n == k.0 && bytes_eq t k.1.now) (Some v) (at_name n t es)
name_look k v n t es new puts = look_put same_names (is_name n t) (name_same n t) (name_apart n t) k v es new puts

pub name_found : {V : Type 0} (k : Name) (v : V) (n : ℕ) (t : List ℕ) (es : List (Name × V)) → (n == k.0 && bytes_eq t k.1.now) ≡ true → at_name n t es ≡ lookup (same_names k) es
name_found k v n t es h = found_same same_names (is_name n t) (name_same n t) (name_apart n t) k h es
