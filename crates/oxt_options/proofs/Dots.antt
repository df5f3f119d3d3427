-- The parts of a text around its last dot.
use lib.ListN.{take-append-drop}
use denote.Ref.{Bor}
use Rattle.std.proofs.Common.{ℕ, suc, ◌+◌, ◌<◌, ◌≤◌, ◌≡◌, ◌≢◌, refl, sym, ap, ◌∙◌, List, [], ◌∷◌, ◌++◌, length, take, drop, get_or, Bool, true, false, cond, ◌==◌, Option, Some, None, MatchOption, option_map, arith}
use Rattle.std.proofs.lemmas.Bool.Decides.{nat_tests}
use Rattle.std.proofs.lemmas.Str.Pattern.{NoCharPasses-char, drop_at_char}
use Rattle.std.specs.Str.Pattern.{RFindsChar}
use Rattle.oxt_options.specs.Rewrite.{around_dot, around_from}

-- a byte that is no dot, in front of a text without dots
other_first : (b : ℕ) (bs : List ℕ) → b ≢ 46 → around_from b bs None ≡ None
other_first b bs h = by (b == 46) refl
  where
    by : (r : Bool) → (b == 46) ≡ r → around_from b bs None ≡ None
    by true e = let same : b ≡ 46 = grind (arith, nat_tests) in absurd (h same)
    by false e = ap (λ r. cond r (Some ([], bs)) None) e

no_dot : (bs : List ℕ) → ((i : ℕ) → i < length bs → get_or bs i 0 ≢ 46) → around_dot bs ≡ None
no_dot [] h = refl
no_dot (b ∷ bs) h = ap (around_from b bs) (no_dot bs (λ i l. h (suc i) (omega arith))) ∙ other_first b bs (h 0 (omega arith))

last_dot : (xs ys : List ℕ) → around_dot ys ≡ None → around_dot (xs ++ 46 ∷ ys) ≡ Some (xs, ys)
last_dot [] ys e = ap (around_from 46 ys) e
last_dot (x ∷ xs) ys e = ap (around_from x (xs ++ 46 ∷ ys)) (last_dot xs ys e)

-- what is answered by a search for a dot from the end
pub around_is : (bs : List ℕ) (r : Option (Bor (List ℕ) × Bor (List ℕ)))
    → MatchOption r (RFindsChar 46 bs None) (λ x. (i : ℕ) × (j : ℕ) × RFindsChar 46 bs (Some (i, j)) × (x.0.now ≡ take i bs) × (x.1.now ≡ drop j bs) × (i ≤ j) × (length x.0.now ≡ i) × (length x.1.now + j ≡ length bs))
    → option_map (λ p. (p.0.now, p.1.now)) r ≡ around_dot bs
around_is bs None h = sym (no_dot bs (λ i. NoCharPasses-char 46 bs i h (omega arith)))
around_is bs (Some x) h =
    let free : around_dot (drop h.1 bs) ≡ None = no_dot (drop h.1 bs) (λ i. NoCharPasses-char 46 (drop h.1 bs) i h.2.0 (omega arith)) in
    let split : bs ≡ take h.0 bs ++ 46 ∷ drop h.1 bs = sym (take-append-drop h.0 bs) ∙ ap (λ l. take h.0 bs ++ l) (drop_at_char 46 bs h.0 h.1 h.2.1 (omega arith)) in
    (λ k. Some (h.3 k, h.4 k)) ∙ sym (last_dot (take h.0 bs) (drop h.1 bs) free) ∙ sym (ap around_dot split)
