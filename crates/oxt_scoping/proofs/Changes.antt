-- Lists of which one element changes.
use Rattle.std.proofs.Common.{◌≡◌, refl, sym, ap, subst, ◌∙◌, ℕ, zero, suc, ◌<◌, ◌≤◌, List, [], ◌∷◌, length, map, get_or, Some, add-one, ◌+◌, Result, Ok, Err, OnOk, arith}
use Rattle.std.specs.Prelude.{slice_get, slice_set}
use Rattle.oxt_scoping.specs.Scoped.{changed_at}

pub get_at : {A : Type 0} (xs : List A) (i : ℕ) (x : A) → i < length xs → x ≡ get_or xs i x → slice_get xs i ≡ Some x
get_at [] i x h e = absurd (omega arith)
get_at (y ∷ xs) zero x h e = ap (λ z. Some z) (sym e)
get_at (y ∷ xs) (suc i) x h e = get_at xs i x (omega arith) e

-- a write of the changed element changes it
pub set_changed : {A : Type 0} (f : A → A) (xs : List A) (i : ℕ) (x y : A) → i < length xs → x ≡ get_or xs i x → y ≡ f x → slice_set xs i y ≡ changed_at i f xs
set_changed f [] i x y h e d = absurd (omega arith)
set_changed f (z ∷ xs) zero x y h e d = ap (λ w. w ∷ xs) (d ∙ ap f e)
set_changed f (z ∷ xs) (suc i) x y h e d = ap (λ ws. z ∷ ws) (set_changed f xs i x y (omega arith) e d)

-- the same of a call that may fail
pub on_changed : {A T E : Type 0} (f : A → A) (r : Result T E) (xs : List A) (i : ℕ) (x y : A) → i < length xs → x ≡ get_or xs i x → OnOk r (y ≡ f x) → OnOk r (slice_set xs i y ≡ changed_at i f xs)
on_changed f (Ok t) xs i x y h e d = set_changed f xs i x y h e d
on_changed f (Err t) xs i x y h e d = tt

-- a write of the same element changes nothing
pub set_same : {A : Type 0} (xs : List A) (i : ℕ) (x y : A) → i < length xs → x ≡ get_or xs i x → y ≡ x → slice_set xs i y ≡ xs
set_same [] i x y h e d = absurd (omega arith)
set_same (z ∷ xs) zero x y h e d = ap (λ w. w ∷ xs) (d ∙ e)
set_same (z ∷ xs) (suc i) x y h e d = ap (λ ws. z ∷ ws) (set_same xs i x y (omega arith) e d)

-- beyond the end there is nothing to change
pub unchanged_at : {A : Type 0} (f : A → A) (xs : List A) (i : ℕ) → length xs ≤ i → changed_at i f xs ≡ xs
unchanged_at f [] i h = refl
unchanged_at f (x ∷ xs) zero h = absurd (omega arith)
unchanged_at f (x ∷ xs) (suc i) h = ap (λ ws. x ∷ ws) (unchanged_at f xs i (omega arith))

-- the list with so many at its front changed
abbrev pub changed_front : {A : Type 0} → (A → A) → ℕ → List A → List A
changed_front f zero xs = xs
changed_front f (suc i) [] = []
changed_front f (suc i) (x ∷ xs) = f x ∷ changed_front f i xs

next : {A : Type 0} (f : A → A) (xs : List A) (i : ℕ) (x y : A) → i < length (changed_front f i xs) → x ≡ get_or (changed_front f i xs) i x → y ≡ f x → slice_set (changed_front f i xs) i y ≡ changed_front f (suc i) xs
next f [] zero x y h e d = absurd (omega arith)
next f [] (suc i) x y h e d = absurd (omega arith)
next f (z ∷ xs) zero x y h e d = ap (λ w. w ∷ xs) (d ∙ ap f e)
next f (z ∷ xs) (suc i) x y h e d = ap (λ ws. f z ∷ ws) (next f xs i x y (omega arith) e d)

pub length_front : {A : Type 0} (f : A → A) (i : ℕ) (xs : List A) → length (changed_front f i xs) ≡ length xs
length_front f zero xs = refl
length_front f (suc i) [] = refl
length_front f (suc i) (x ∷ xs) = ap (λ n. suc n) (length_front f i xs)

-- one more is changed
pub one_further : {A : Type 0} (f : A → A) (xs ys : List A) (i : ℕ) (x y : A) → ys ≡ changed_front f i xs → i < length xs → x ≡ get_or ys i x → y ≡ f x → slice_set ys i y ≡ changed_front f (i + 1) xs
one_further f xs ys i x y is h e d =
    rw add-one (ap (λ zs. slice_set zs i y) is ∙ next f xs i x y (omega (arith, length_front f i xs)) (subst (λ zs. x ≡ get_or zs i x) is e) d)

whole : {A : Type 0} (f : A → A) (xs : List A) (i : ℕ) → length xs ≤ i → changed_front f i xs ≡ map f xs
whole f [] zero h = refl
whole f [] (suc i) h = refl
whole f (x ∷ xs) zero h = absurd (omega arith)
whole f (x ∷ xs) (suc i) h = ap (λ ws. f x ∷ ws) (whole f xs i (omega arith))

-- all are changed
pub front_whole : {A : Type 0} (f : A → A) (xs ys : List A) (i : ℕ) → ys ≡ changed_front f i xs → length xs ≤ i → ys ≡ map f xs
front_whole f xs ys i is h = is ∙ whole f xs i h
