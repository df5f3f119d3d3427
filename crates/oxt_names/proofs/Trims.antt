-- A text without what is at its front or end, a byte at a time.
use Rattle.std.proofs.Common.{ℕ, zero, suc, ◌+◌, ◌-◌, ◌<◌, ◌≡◌, ◌≢◌, refl, sym, ap, ◌∙◌, List, [], ◌∷◌, ◌++◌, length, take, Bool, true, false, cond, ◌==◌, Option, Some, None, MatchOption, slice_get, length-append, arith, Bor}
use Rattle.std.proofs.lemmas.Bool.Decides.{nat_tests}
use Rattle.oxt_names.specs.Made.{without_underscores, without_digits, before_end, is_digit}

-- ---- underscores

no_underscore : (bs : List ℕ) → ((rest : List ℕ) → bs ≢ 95 ∷ rest) → without_underscores bs ≡ bs
no_underscore [] h = refl
no_underscore (b ∷ bs) h = by (b == 95) refl
  where
    by : (r : Bool) → (b == 95) ≡ r → without_underscores (b ∷ bs) ≡ b ∷ bs
    by true e = let same : b ≡ 95 = grind (arith, nat_tests) in absurd (h bs (ap (λ n. n ∷ bs) same))
    by false e = ap (λ r. cond r (without_underscores bs) (b ∷ bs)) e

pub unless_underscore : (bs : List ℕ) (r : Option (Bor (List ℕ))) → MatchOption r ((rest : List ℕ) → bs ≢ 95 ∷ rest) (λ x. bs ≡ 95 ∷ x.now) → MatchOption r (without_underscores bs ≡ bs) (λ x. (without_underscores bs ≡ without_underscores x.now) × (length x.now < length bs))
unless_underscore bs None h = no_underscore bs h
unless_underscore bs (Some x) h = (ap without_underscores h, omega (arith, ap length h))

-- ---- digits

digit_passed : (bs : List ℕ) (d : ℕ) → is_digit d ≡ true → without_digits (bs ++ d ∷ []) ≡ without_digits bs
digit_passed [] d h = ap (λ r. cond r [] (d ∷ [])) h
digit_passed (b ∷ bs) d h = ap (before_end b) (digit_passed bs d h)

before_more : (b d : ℕ) (bs : List ℕ) → before_end b (bs ++ d ∷ []) ≡ b ∷ (bs ++ d ∷ [])
before_more b d [] = refl
before_more b d (x ∷ bs) = refl

no_digit : (bs : List ℕ) (d : ℕ) → is_digit d ≡ false → without_digits (bs ++ d ∷ []) ≡ bs ++ d ∷ []
no_digit [] d h = ap (λ r. cond r [] (d ∷ [])) h
no_digit (b ∷ bs) d h = ap (before_end b) (no_digit bs d h) ∙ before_more b d bs

split_at : (bs : List ℕ) (i b : ℕ) → i + 1 ≡ length bs → Some b ≡ slice_get bs i → bs ≡ take i bs ++ b ∷ []
split_at [] i b n e = absurd (omega arith)
split_at (x ∷ []) zero b n e = let same : b ≡ x = cc in ap (λ n. n ∷ []) (sym same)
split_at (x ∷ []) (suc i) b n e = absurd (omega arith)
split_at (x ∷ y ∷ ys) zero b n e = absurd (omega arith)
split_at (x ∷ y ∷ ys) (suc i) b n e = ap (λ zs. x ∷ zs) (split_at (y ∷ ys) i b (omega arith) e)

split_last : (bs : List ℕ) (b : ℕ) → Some b ≡ slice_get bs (length bs - 1) → bs ≡ take (length bs - 1) bs ++ b ∷ []
split_last [] b e = cc
split_last (x ∷ xs) b e = split_at (x ∷ xs) (length (x ∷ xs) - 1) b (omega arith) e

pub digit_small : (b : ℕ) → is_digit b ≡ true → b < 128
digit_small b h = grind (arith, nat_tests)

pub last_stays : (bs : List ℕ) (b : ℕ) → Some b ≡ slice_get bs (length bs - 1) → is_digit b ≡ false → without_digits bs ≡ bs
last_stays bs b e h = let s = split_last bs b e in ap without_digits s ∙ no_digit (take (length bs - 1) bs) b h ∙ sym s

pub unless_digit : (bs : List ℕ) (b : ℕ) (r : Option (Bor (List ℕ))) → Some b ≡ slice_get bs (length bs - 1) → is_digit b ≡ true → MatchOption r ((front : List ℕ) → bs ≢ front ++ b ∷ []) (λ x. bs ≡ x.now ++ b ∷ []) → MatchOption r (without_digits bs ≡ bs) (λ x. (without_digits bs ≡ without_digits x.now) × (length x.now < length bs))
unless_digit bs b None e d h = absurd (h (take (length bs - 1) bs) (split_last bs b e))
unless_digit bs b (Some x) e d h = (ap without_digits h ∙ digit_passed x.now b d, omega (arith, ap length h ∙ length-append x.now (b ∷ [])))
