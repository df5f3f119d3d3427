-- The groups of names in a word, one item after the other.
use Rattle.std.proofs.Common.{◌≡◌, ◌∙◌, refl, sym, ap, ℕ, zero, suc, ◌+◌, ◌<◌, ◌≤◌, List, [], ◌∷◌, ◌++◌, map, length, drop, take, get_or, add-one, arith}
use Rattle.std.proofs.Math.ListN.{set}
use Rattle.oxt_names.proofs.Lists.{drop_at, drop_end}
use Rattle.oxt_facts.specs.Entry.{Entry, entries, entry_of}
use Rattle.oxt_facts.specs.Groups.{groups_met, met_in, with_number_among}
use Rattle.oxt_facts.specs.declared.item.Item.{Item}

-- ---- which are declared

pub none_met : (gs : List ℕ) (xs : List Item) (i : ℕ) → length xs ≤ i → groups_met gs (entries (drop i xs)) ≡ gs
none_met gs xs i h = ap (λ ys. groups_met gs (entries ys)) (drop_end xs i h)

pub one_met : (before after : List ℕ) (xs : List Item) (i : ℕ) (x : Item) → i < length xs → x ≡ get_or xs i x → after ≡ met_in (entry_of x) before
    → groups_met before (entries (drop i xs)) ≡ groups_met after (entries (drop (i + 1) xs))
one_met before after xs i x h e is =
    ap (λ ys. groups_met before (entries ys)) (drop_at xs i x h e)
    ∙ ap (λ gs. groups_met gs (entries (drop (i + 1) xs))) (sym is)

pub ruleset met_steps = (one_met, none_met)

-- ---- their numbers

-- the first items as they are, and the others numbered
abbrev pub so_far : List ℕ → ℕ → List Item → List Entry
so_far gs i xs = entries (take i xs) ++ map (with_number_among gs) (entries (drop i xs))

next : (gs : List ℕ) (i : ℕ) (xs : List Item) (x y : Item) → i < length xs → x ≡ get_or xs i x → entry_of y ≡ with_number_among gs (entry_of x) → so_far gs i xs ≡ so_far gs (suc i) (set xs i y)
next gs i [] x y h e n = absurd (omega arith)
next gs zero (z ∷ xs) x y h e n =
    ap (λ (w : Item). with_number_among gs (entry_of w) ∷ map (with_number_among gs) (entries xs)) (sym e)
    ∙ ap (λ v. v ∷ map (with_number_among gs) (entries xs)) (sym n)
next gs (suc i) (z ∷ xs) x y h e n = ap (λ v. entry_of z ∷ v) (next gs i xs x y (omega arith) e n)

pub number_more : (whole : List Entry) (gs : List ℕ) (i : ℕ) (xs : List Item) (x y : Item) → i < length xs → x ≡ get_or xs i x → entry_of y ≡ with_number_among gs (entry_of x) → whole ≡ so_far gs i xs → whole ≡ so_far gs (i + 1) (set xs i y)
number_more whole gs i xs x y h e n before = rw add-one (before ∙ next gs i xs x y h e n)

pub no_more : (whole : List Entry) (gs : List ℕ) (i : ℕ) (xs : List Item) → length xs ≤ i → whole ≡ so_far gs i xs → entries xs ≡ whole
no_more whole gs i xs past before = sym (before ∙ all i xs past)
  where
    all : (i : ℕ) (xs : List Item) → length xs ≤ i → so_far gs i xs ≡ entries xs
    all zero [] past = refl
    all (suc i) [] past = refl
    all zero (x ∷ xs) past = absurd (omega arith)
    all (suc i) (x ∷ xs) past = ap (λ v. entry_of x ∷ v) (all i xs (omega arith))
