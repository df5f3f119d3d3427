-- Symbols that are not so, one after another.
use Rattle.std.proofs.Common.{◌≡◌, ◌∙◌, refl, ap, ℕ, zero, suc, ◌+◌, ◌<◌, ◌≤◌, List, [], ◌∷◌, length, arith, Bool, true, false, Option, None}
use Rattle.std.specs.Prelude.{nat_lt, slice_get}
use Rattle.oxt_scoping.specs.Entries.{SymbolData}

-- none of the first so many symbols is
pub record IsNone (f : Option SymbolData → Bool) (ys : List SymbolData) (k : ℕ) : Type 0 where
  pub none : (n : ℕ) → n < k → f (slice_get ys n) ≡ false

past_end : (ys : List SymbolData) (n : ℕ) → length ys ≤ n → slice_get ys n ≡ None
past_end [] n h = refl
past_end (y ∷ ys) zero h = absurd (omega arith)
past_end (y ∷ ys) (suc n) h = past_end ys n (omega arith)

pub seek_none : (f : Option SymbolData → Bool) (ys : List SymbolData) (k : ℕ) → k ≡ 0 → IsNone f ys k
seek_none f ys k is = record { none = λ n lt. absurd (omega (arith, is)) }

pub seek_more : (f : Option SymbolData → Bool) (ys : List SymbolData) (k : ℕ) → f (slice_get ys k) ≡ false → IsNone f ys k → IsNone f ys (k + 1)
seek_more f ys k is so_far = record { none = λ n lt. by n lt (nat_lt n k) refl }
  where
    by : (n : ℕ) → n < k + 1 → (b : Bool) → nat_lt n k ≡ b → f (slice_get ys n) ≡ false
    by n lt true e = so_far.none n (grind (arith, e))
    by n lt false e = let same : n ≡ k = grind (arith, e, lt) in ap (λ m. f (slice_get ys m)) same ∙ is

pub seek_all : (f : Option SymbolData → Bool) (ys : List SymbolData) (k : ℕ) → f None ≡ false → nat_lt k (length ys) ≡ false → IsNone f ys k → (n : ℕ) → f (slice_get ys n) ≡ false
seek_all f ys k is past so_far n = by (nat_lt n k) refl
  where
    by : (b : Bool) → nat_lt n k ≡ b → f (slice_get ys n) ≡ false
    by true e = so_far.none n (grind (arith, e))
    by false e = let late : length ys ≤ n = grind (arith, e, past) in ap f (past_end ys n late) ∙ is
