-- Numbering the tags of items, one item after the other.
use Rattle.std.proofs.Common.{◌≡◌, ◌∙◌, refl, sym, ap, ℕ, zero, suc, ◌+◌, ◌<◌, ◌≤◌, List, [], ◌∷◌, ◌++◌, length, drop, take, get_or, add-one, arith}
use Rattle.std.proofs.Math.ListN.{set}
use Rattle.oxt_facts.specs.Entry.{Entry, entries, entry_of}
use Rattle.oxt_facts.specs.Tags.{noted, numbered, tag_in, with_number}
use Rattle.oxt_facts.specs.declared.item.Item.{Item}

-- the first items as they are, and the others numbered
abbrev pub so_far : ℕ → List Item → List (List ℕ) → List Entry
so_far i xs ts = entries (take i xs) ++ numbered ts (entries (drop i xs))

next : (ts us : List (List ℕ)) (i : ℕ) (xs : List Item) (x y : Item) → i < length xs → x ≡ get_or xs i x → entry_of y ≡ with_number ts (entry_of x) (tag_in (entry_of x)) → us ≡ noted ts (tag_in (entry_of x)) → so_far i xs ts ≡ so_far (suc i) (set xs i y) us
next ts us i [] x y h e n m = absurd (omega arith)
next ts us zero (z ∷ xs) x y h e n m =
    ap (λ (w : Item). with_number ts (entry_of w) (tag_in (entry_of w)) ∷ numbered (noted ts (tag_in (entry_of w))) (entries xs)) (sym e)
    ∙ ap (λ v. v ∷ numbered (noted ts (tag_in (entry_of x))) (entries xs)) (sym n)
    ∙ ap (λ v. entry_of y ∷ numbered v (entries xs)) (sym m)
next ts us (suc i) (z ∷ xs) x y h e n m = ap (λ v. entry_of z ∷ v) (next ts us i xs x y (omega arith) e n m)

pub one_more : (whole : List Entry) (ts us : List (List ℕ)) (i : ℕ) (xs : List Item) (x y : Item) → i < length xs → x ≡ get_or xs i x → entry_of y ≡ with_number ts (entry_of x) (tag_in (entry_of x)) → us ≡ noted ts (tag_in (entry_of x)) → whole ≡ so_far i xs ts → whole ≡ so_far (i + 1) (set xs i y) us
one_more whole ts us i xs x y h e n m before = rw add-one (before ∙ next ts us i xs x y h e n m)

pub no_more : (whole : List Entry) (ts : List (List ℕ)) (i : ℕ) (xs : List Item) → length xs ≤ i → whole ≡ so_far i xs ts → entries xs ≡ whole
no_more whole ts i xs past before = sym (before ∙ all ts i xs past)
  where
    all : (ts : List (List ℕ)) (i : ℕ) (xs : List Item) → length xs ≤ i → so_far i xs ts ≡ entries xs
    all ts zero [] past = refl
    all ts (suc i) [] past = refl
    all ts zero (x ∷ xs) past = absurd (omega arith)
    all ts (suc i) (x ∷ xs) past = ap (λ v. entry_of x ∷ v) (all ts i xs (omega arith))
