-- The first difference of two words.
use Rattle.std.proofs.Common.{◌≡◌, ◌≢◌, ◌∙◌, refl, sym, ap, ℕ, zero, suc, ◌+◌, ◌<◌, ◌≤◌, List, [], ◌∷◌, length, take, get_or, add-one, arith}
use Rattle.std.specs.List.{slice_get}
use Rattle.oxt_facts.specs.Entry.{Entry, entries, entry_of}
use Rattle.oxt_facts.specs.declared.item.Item.{Item}

more : (a b : List Item) (i : ℕ) (x y : Item) → i < length a → x ≡ get_or a i x → i < length b → y ≡ get_or b i y → entry_of x ≡ entry_of y → take i (entries a) ≡ take i (entries b) → take (suc i) (entries a) ≡ take (suc i) (entries b)
more [] b i x y h e k f same so_far = absurd (omega arith)
more (p ∷ a) [] i x y h e k f same so_far = absurd (omega arith)
more (p ∷ a) (q ∷ b) zero x y h e k f same so_far =
    ap (λ (z : Entry). z ∷ []) (ap entry_of (sym e) ∙ same ∙ ap entry_of f)
more (p ∷ a) (q ∷ b) (suc i) x y h e k f same so_far =
    let rest = more a b i x y (omega arith) e (omega arith) f same (cc) in
    cc

pub one_more : (a b : List Item) (i : ℕ) (x y : Item) → i < length a → x ≡ get_or a i x → i < length b → y ≡ get_or b i y → entry_of x ≡ entry_of y → take i (entries a) ≡ take i (entries b) → take (i + 1) (entries a) ≡ take (i + 1) (entries b)
one_more a b i x y h e k f same so_far =
    let step : take (suc i) (entries a) ≡ take (suc i) (entries b) = more a b i x y h e k f same so_far in
    ap (λ n. take n (entries a)) (add-one i) ∙ step ∙ ap (λ n. take n (entries b)) (sym (add-one i))

pub differs : (a b : List Item) (i : ℕ) (x y : Item) → i < length a → x ≡ get_or a i x → i < length b → y ≡ get_or b i y → (entry_of x ≡ entry_of y → ⊥) → slice_get (entries a) i ≢ slice_get (entries b) i
differs [] b i x y h e k f other same = absurd (omega arith)
differs (p ∷ a) [] i x y h e k f other same = absurd (omega arith)
differs (p ∷ a) (q ∷ b) zero x y h e k f other same = other (let front = ap entry_of e in let behind = ap entry_of f in cc)
differs (p ∷ a) (q ∷ b) (suc i) x y h e k f other same = differs a b i x y (omega arith) e (omega arith) f other same

pub none_left : (a b : List Item) (i : ℕ) → length a ≤ i → length a ≡ length b → take i (entries a) ≡ take i (entries b) → entries a ≡ entries b
none_left [] [] i h k so_far = refl
none_left [] (q ∷ b) i h k so_far = absurd (omega arith)
none_left (p ∷ a) [] i h k so_far = absurd (omega arith)
none_left (p ∷ a) (q ∷ b) zero h k so_far = absurd (omega arith)
none_left (p ∷ a) (q ∷ b) (suc i) h k so_far =
    let rest = none_left a b i (omega arith) (omega arith) (cc) in
    cc

pub one_left : (a b : List Item) (i : ℕ) → i ≤ length a → i ≤ length b → (length a ≡ length b → ⊥) → (i < length a → i < length b → ⊥) → slice_get (entries a) i ≢ slice_get (entries b) i
one_left [] [] i h k uneven past same = uneven refl
one_left [] (q ∷ b) zero h k uneven past same = cc
one_left [] (q ∷ b) (suc i) h k uneven past same = absurd (omega arith)
one_left (p ∷ a) [] zero h k uneven past same = cc
one_left (p ∷ a) [] (suc i) h k uneven past same = absurd (omega arith)
one_left (p ∷ a) (q ∷ b) zero h k uneven past same = past (omega arith) (omega arith)
one_left (p ∷ a) (q ∷ b) (suc i) h k uneven past same = one_left a b i (omega arith) (omega arith) (λ e. uneven (ap (λ n. suc n) e)) (λ l m. past (omega arith) (omega arith)) same
