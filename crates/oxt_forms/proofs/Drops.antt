-- A value that is dropped, and what stands before it.
use Rattle.std.proofs.Common.{◌≡◌, ◌∙◌, refl, sym, ap, ℕ, zero, suc, ◌+◌, ◌<◌, ◌≤◌, List, [], ◌∷◌, ◌++◌, length, drop, take, get_or, append_assoc, arith, true, false, if◌then◌else◌}
use Rattle.oxt_facts.specs.Entry.{Entry, entries, lone}
use Rattle.oxt_facts.specs.declared.item.Item.{Item}
use Rattle.oxt_facts.specs.declared.item.ItemKind.TheVariants as item
use Rattle.oxt_forms.specs.Leaves.{dropped, ends_kept, is_kept_kind}

pub take_drop : (n : ℕ) (xs : List Entry) → take n xs ++ drop n xs ≡ xs
take_drop zero xs = refl
take_drop (suc n) [] = refl
take_drop (suc n) (x ∷ xs) = ap (λ v. x ∷ v) (take_drop n xs)

pub held : (n : ℕ) (xs : List Entry) → true ≡ ends_kept (drop n xs) → xs ≡ take n xs ++ dropped (drop n xs)
held n xs e = sym (ap (λ b. take n xs ++ (if b then drop n xs else drop n xs ++ lone item.Eval)) (sym e) ∙ take_drop n xs)

pub let_go : (n : ℕ) (xs ys : List Entry) → false ≡ ends_kept (drop n xs) → ys ≡ xs ++ lone item.Eval → ys ≡ take n xs ++ dropped (drop n xs)
let_go n xs ys e is =
    is ∙ ap (λ v. v ++ lone item.Eval) (sym (take_drop n xs)) ∙ append_assoc (take n xs) (drop n xs) (lone item.Eval)
    ∙ ap (λ b. take n xs ++ (if b then drop n xs else drop n xs ++ lone item.Eval)) e

pub nothing_last : (xs : List Item) (n : ℕ) → length xs ≤ n → false ≡ ends_kept (drop n (entries xs))
nothing_last [] zero h = refl
nothing_last [] (suc n) h = refl
nothing_last (x ∷ xs) zero h = absurd (omega arith)
nothing_last (x ∷ xs) (suc n) h = nothing_last xs n (omega arith)

last : (xs : List Item) (i : ℕ) (x : Item) → length xs ≡ suc i → x ≡ get_or xs i x → is_kept_kind x.kind ≡ ends_kept (entries xs)
last [] i x long at = absurd (omega arith)
last (y ∷ []) zero x long at = ap (λ (z : Item). is_kept_kind z.kind) at
last (y ∷ []) (suc i) x long at = absurd (omega arith)
last (y ∷ z ∷ xs) zero x long at = absurd (omega arith)
last (y ∷ z ∷ xs) (suc i) x long at = last (z ∷ xs) i x (omega arith) at

pub kept_last : (xs : List Item) (n i : ℕ) (x : Item) → n < length xs → length xs ≡ i + 1 → x ≡ get_or xs i x → is_kept_kind x.kind ≡ ends_kept (drop n (entries xs))
kept_last [] n i x h long at = absurd (omega arith)
kept_last (y ∷ xs) zero i x h long at = last (y ∷ xs) i x (omega arith) at
kept_last (y ∷ []) (suc n) i x h long at = absurd (omega arith)
kept_last (y ∷ z ∷ xs) (suc n) zero x h long at = absurd (omega arith)
kept_last (y ∷ z ∷ xs) (suc n) (suc i) x h long at = kept_last (z ∷ xs) n i x (omega arith) (omega arith) at

-- what was put behind the old items, and is dropped
pub take_old : (xs ys : List Entry) → take (length xs) (xs ++ ys) ≡ xs
take_old [] ys = refl
take_old (x ∷ xs) ys = ap (λ v. x ∷ v) (take_old xs ys)

pub drop_old : (xs ys : List Entry) → drop (length xs) (xs ++ ys) ≡ ys
drop_old [] ys = refl
drop_old (x ∷ xs) ys = drop_old xs ys

same_length : (xs : List Item) → length (entries xs) ≡ length xs
same_length [] = refl
same_length (x ∷ xs) = ap suc (same_length xs)

pub behind : (old mid new : List Item) (n : ℕ) (w : List Entry) → n ≡ length old → entries mid ≡ entries old ++ w → entries new ≡ take n (entries mid) ++ dropped (drop n (entries mid)) → entries new ≡ entries old ++ dropped w
behind old mid new n w long put is =
    let at : n ≡ length (entries old) = long ∙ sym (same_length old) in
    is ∙ ap (λ v. take n v ++ dropped (drop n v)) put ∙ ap (λ k. take k (entries old ++ w) ++ dropped (drop k (entries old ++ w))) at
    ∙ ap (λ v. v ++ dropped (drop (length (entries old)) (entries old ++ w))) (take_old (entries old) w) ∙ ap (λ v. entries old ++ dropped v) (drop_old (entries old) w)
