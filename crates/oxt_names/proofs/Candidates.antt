-- The candidates for a made name differ, so that one of the first is free.
use Rattle.std.proofs.Common.{ℕ, zero, suc, ◌+◌, ◌-◌, ◌^◌, ◌<◌, ◌≤◌, ◌≡◌, ◌==◌, refl, sym, ap, ◌∙◌, subst, List, [], ◌∷◌, ◌++◌, length, Bool, true, false, cond, ◌||◌, ◌⊎◌, true≢false, append-nil, arith, inl, inr}
use Rattle.std.specs.Fmt.{decimal}
use Rattle.std.specs.List.{list_any, IsDistinct, AllByRecursion}
use Rattle.std.specs.Str.{bytes_eq}
use Rattle.std.proofs.lemmas.Bool.{false_from_ne_true}
use Rattle.std.proofs.lemmas.Bool.Decides.{nat_tests}
use Rattle.std.proofs.lemmas.Cmp.{nat_list_eq_equiv}
use Rattle.std.proofs.lemmas.Fmt.{decimal_injective, decimal_nonempty}
use Rattle.std.proofs.lemmas.Map.Made.{length-le_from_is_member}
use Rattle.std.proofs.lemmas.Slice.Eq.{bytes_eq-Decides}
use Rattle.oxt_names.proofs.Tables.{among_added, among_more, added_present}
use Rattle.oxt_names.specs.Made.{is_among, added, candidate, first_free}
use Rattle.oxt_names.specs.Tried.{FirstFree, TriedBelow}

pub later : (base : List ℕ) (n : ℕ) → 2 ≤ n → candidate base n ≡ base ++ decimal n
later base n h = let e : (n == 1) ≡ false = grind (arith, nat_tests) in ap (λ b. cond b base (base ++ decimal n)) e

append_same : (xs ys zs : List ℕ) → xs ++ ys ≡ xs ++ zs → ys ≡ zs
append_same [] ys zs e = e
append_same (x ∷ xs) ys zs e = append_same xs ys zs (cc)

-- ---- two candidates differ

apart : (base : List ℕ) (m k : ℕ) → 0 < k → k < m → m < 2 ^ 64 → candidate base m ≡ candidate base k → ⊥
apart base m zero a b c e = omega arith
apart base m (suc zero) a b c e =
    let d : decimal m ≡ [] = append_same base (decimal m) [] (sym (later base m (omega arith)) ∙ e ∙ sym (append-nil base)) in
    let n : 0 < length (decimal m) = decimal_nonempty m c in
    omega (arith, ap length d)
apart base m (suc (suc k)) a b c e =
    let n : 2 ≤ suc (suc k) = omega arith in
    let d = append_same base (decimal m) (decimal (suc (suc k))) (sym (later base m (omega arith)) ∙ e ∙ later base (suc (suc k)) n) in
    let s : m ≡ suc (suc k) = decimal_injective m (suc (suc k)) c (omega arith) d in
    omega arith

differ : (base : List ℕ) (m k : ℕ) → 0 < k → k < m → m < 2 ^ 64 → bytes_eq (candidate base m) (candidate base k) ≡ false
differ base m k a b c = false_from_ne_true (bytes_eq (candidate base m) (candidate base k)) (λ e. apart base m k a b c ((bytes_eq-Decides (candidate base m) (candidate base k)).0 e))

-- ---- the first candidates, the last of them in front

firsts : List ℕ → ℕ → List (List ℕ)
firsts base zero = []
firsts base (suc n) = candidate base (suc n) ∷ firsts base n

length-firsts : (base : List ℕ) (n : ℕ) → length (firsts base n) ≡ n
unfolding firsts
length-firsts base zero = refl
length-firsts base (suc n) = ap suc (length-firsts base n)

others_differ : (base : List ℕ) (m n : ℕ) → n < m → m < 2 ^ 64 → AllByRecursion (λ y. bytes_eq (candidate base m) y ≡ false) (firsts base n)
unfolding firsts
others_differ base m zero h s = tt
others_differ base m (suc n) h s = (differ base m (suc n) (omega arith) h s, others_differ base m n (omega arith) s)

firsts_distinct : (base : List ℕ) (n : ℕ) → n < 2 ^ 64 → IsDistinct bytes_eq (firsts base n)
unfolding firsts IsDistinct
firsts_distinct base zero s = tt
firsts_distinct base (suc n) s = (others_differ base (suc n) n (omega arith) s, firsts_distinct base n (omega arith))

firsts_among : (base : List ℕ) (taken : List (List ℕ)) (n : ℕ) → ((k : ℕ) → 0 < k → k ≤ n → is_among (candidate base k) taken ≡ true) → (q : List ℕ) → list_any (bytes_eq q) (firsts base n) ≡ true → list_any (bytes_eq q) taken ≡ true
unfolding firsts
firsts_among base taken zero h q e = absurd (true≢false (sym e))
firsts_among base taken (suc n) h q e = by (bytes_eq q (candidate base (suc n))) refl e (λ f. firsts_among base taken n (λ k a b. h k a (omega arith)) q f)
  where
    by : (b : Bool) → bytes_eq q (candidate base (suc n)) ≡ b → b || list_any (bytes_eq q) (firsts base n) ≡ true → (list_any (bytes_eq q) (firsts base n) ≡ true → list_any (bytes_eq q) taken ≡ true) → list_any (bytes_eq q) taken ≡ true
    by true s f rest = subst (λ t. list_any (bytes_eq t) taken ≡ true) (sym ((bytes_eq-Decides q (candidate base (suc n))).0 s)) (h (suc n) (omega arith) (omega arith))
    by false s f rest = rest f

-- at most as many of the first candidates are taken as there are names
pub few_taken : (base : List ℕ) (taken : List (List ℕ)) (n : ℕ) → n < 2 ^ 64 → ((k : ℕ) → 0 < k → k ≤ n → is_among (candidate base k) taken ≡ true) → n ≤ length taken
few_taken base taken n s h =
    let le : length (firsts base n) ≤ length taken = length-le_from_is_member nat_list_eq_equiv (firsts base n) taken (firsts_distinct base n s) (firsts_among base taken n h) in
    omega (arith, length-firsts base n)

-- ---- the first that is free

free_now : (taken : List (List ℕ)) (base : List ℕ) (n left : ℕ) → is_among (candidate base n) taken ≡ false → first_free taken base n left ≡ candidate base n
free_now taken base n zero h = refl
free_now taken base n (suc left) h = ap (λ b. cond b (first_free taken base (suc n) left) (candidate base n)) h

equal_or_less : (n m : ℕ) → n ≤ m → (n ≡ m) ⊎ (n < m)
equal_or_less n m a = grind arith

free_later : (taken : List (List ℕ)) (base : List ℕ) (left n m : ℕ) → n ≤ m → m ≤ n + left → ((k : ℕ) → n ≤ k → k < m → is_among (candidate base k) taken ≡ true) → is_among (candidate base m) taken ≡ false → first_free taken base n left ≡ candidate base m
free_later taken base zero n m a b h f = let e : n ≡ m = omega arith in ap (candidate base) e
free_later taken base (suc left) n m a b h f = by (equal_or_less n m a) (λ l. free_later taken base left (suc n) m l (omega arith) (λ k c d. h k (omega arith) d) f)
  where
    by : (n ≡ m) ⊎ (n < m) → (suc n ≤ m → first_free taken base (suc n) left ≡ candidate base m) → first_free taken base n (suc left) ≡ candidate base m
    by (inl e) rest = free_now taken base n (suc left) (subst (λ k. is_among (candidate base k) taken ≡ false) (sym e) f) ∙ ap (candidate base) e
    by (inr l) rest = ap (λ b. cond b (first_free taken base (suc n) left) (candidate base n)) (h n (omega arith) l) ∙ rest (omega arith)

-- the candidate of a number before which all are taken is the first that is free
pub first_is : (taken : List (List ℕ)) (base : List ℕ) (m : ℕ) → 0 < m → m < 2 ^ 64 → ((k : ℕ) → 0 < k → k < m → is_among (candidate base k) taken ≡ true) → is_among (candidate base m) taken ≡ false → candidate base m ≡ first_free taken base 1 (length taken)
first_is taken base m a s h f =
    let few : m - 1 ≤ length taken = few_taken base taken (m - 1) (omega arith) (λ k b c. h k b (omega arith)) in
    sym (free_later taken base (length taken) 1 m (omega arith) (omega arith) (λ k b c. h k (omega arith) c) f)

-- ---- a name with a number behind its base

pub first_bare : (taken : List (List ℕ)) (base t : List ℕ) → t ≡ base → is_among base taken ≡ false → t ≡ first_free taken base 1 (length taken)
first_bare taken base t e f = e ∙ sym (free_now taken base 1 (length taken) f)

all_before : (taken : List (List ℕ)) (base t : List ℕ) (from number : ℕ) → is_among base taken ≡ true → TriedBelow taken base from → FirstFree taken base from number t → (k : ℕ) → 2 ≤ k → k < number → is_among (base ++ decimal k) taken ≡ true
all_before taken base t from number b tried first k low high = by (below_or_not k from)
  where
    below_or_not : (k from : ℕ) → (k < from) ⊎ (from ≤ k)
    below_or_not k from = grind arith

    by : (k < from) ⊎ (from ≤ k) → is_among (base ++ decimal k) taken ≡ true
    by (inl l) = tried.1 k low l
    by (inr l) = first.before k l high

candidates_before : (taken : List (List ℕ)) (base t : List ℕ) (from number : ℕ) → is_among base taken ≡ true → TriedBelow taken base from → FirstFree taken base from number t → (k : ℕ) → 0 < k → k < number → is_among (candidate base k) taken ≡ true
candidates_before taken base t from number b tried first zero low high = absurd (omega arith)
candidates_before taken base t from number b tried first (suc zero) low high = b
candidates_before taken base t from number b tried first (suc (suc k)) low high =
    let two : 2 ≤ suc (suc k) = omega arith in
    subst (λ u. is_among u taken ≡ true) (sym (later base (suc (suc k)) two)) (all_before taken base t from number b tried first (suc (suc k)) two high)

pub first_numbered : (taken : List (List ℕ)) (base t u : List ℕ) (from number : ℕ) → u ≡ t → is_among base taken ≡ true → TriedBelow taken base from → FirstFree taken base from number t → u ≡ first_free taken base 1 (length taken)
first_numbered taken base t u from number e b tried first =
    let low : 2 ≤ from = tried.0 in
    let late : from ≤ number = first.late in
    let small : number < 2 ^ 64 - 1 = first.small in
    let is : t ≡ candidate base number = first.numbered ∙ sym (later base number (omega arith)) in
    e ∙ is ∙ first_is taken base number (omega arith) (omega arith) (candidates_before taken base t from number b tried first) (subst (λ v. is_among v taken ≡ false) is first.free)

pub tried_again : (taken after : List (List ℕ)) (base t : List ℕ) (from number : ℕ) → after ≡ added t taken → is_among base taken ≡ true → TriedBelow taken base from → FirstFree taken base from number t → TriedBelow (added base after) base (number + 1)
tried_again taken after base t from number e b tried first =
    let low : 2 ≤ from = tried.0 in
    let late : from ≤ number = first.late in
    (omega arith, λ k a c. among_more (base ++ decimal k) base after (subst (λ ss. is_among (base ++ decimal k) ss ≡ true) (sym e) (by k a (below_or_equal k number c))))
  where
    below_or_equal : (k number : ℕ) → k < number + 1 → (k < number) ⊎ (k ≡ number)
    below_or_equal k number c = grind arith

    by : (k : ℕ) → 2 ≤ k → (k < number) ⊎ (k ≡ number) → is_among (base ++ decimal k) (added t taken) ≡ true
    by k a (inl l) = among_more (base ++ decimal k) t taken (all_before taken base t from number b tried first k a l)
    by k a (inr s) = subst (λ u. is_among u (added t taken) ≡ true) (first.numbered ∙ ap (λ n. base ++ decimal n) (sym s)) (among_added t taken)

pub base_stays : (taken after : List (List ℕ)) (base t : List ℕ) → after ≡ added t taken → is_among base taken ≡ true → is_among base after ≡ true
base_stays taken after base t e b = subst (λ ss. is_among base ss ≡ true) (sym e) (among_more base t taken b)

pub one_more : (taken after last : List (List ℕ)) (base t u : List ℕ) → u ≡ t → after ≡ added t taken → last ≡ added base after → is_among base taken ≡ true → last ≡ added u taken
one_more taken after last base t u s e l b = l ∙ added_present base after (base_stays taken after base t e b) ∙ e ∙ ap (λ v. added v taken) (sym s)
