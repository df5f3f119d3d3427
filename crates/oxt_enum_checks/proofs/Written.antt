-- References that are not so, one after another.
use Rattle.std.proofs.Common.{◌≡◌, ◌∙◌, refl, ap, ℕ, zero, suc, ◌+◌, ◌<◌, ◌≤◌, List, [], ◌∷◌, length, arith, Bool, true, false, Option, None}
use Rattle.std.specs.Prelude.{nat_lt}
use Rattle.oxt_scoping.specs.Scoped.{live_at}
use Rattle.oxt_scoping.specs.declared.entry.Reference.{Reference}
use Rattle.oxt_scoping.specs.declared.entry.Slot.{Slot}

-- none of the first so many references is
pub record IsNone (f : Option Reference → Bool) (ss : List Slot) (k : ℕ) : Type 0 where
  pub none : (n : ℕ) → n < k → f (live_at ss n) ≡ false

past_end : (ss : List Slot) (n : ℕ) → length ss ≤ n → live_at ss n ≡ None
past_end [] n h = refl
past_end (x ∷ ss) zero h = absurd (omega arith)
past_end (x ∷ ss) (suc n) h = past_end ss n (omega arith)

pub written_none : (f : Option Reference → Bool) (ss : List Slot) (k : ℕ) → k ≡ 0 → IsNone f ss k
written_none f ss k is = record { none = λ n lt. absurd (omega (arith, is)) }

pub written_more : (f : Option Reference → Bool) (ss : List Slot) (k : ℕ) → f (live_at ss k) ≡ false → IsNone f ss k → IsNone f ss (k + 1)
written_more f ss k is so_far = record { none = λ n lt. by n lt (nat_lt n k) refl }
  where
    by : (n : ℕ) → n < k + 1 → (b : Bool) → nat_lt n k ≡ b → f (live_at ss n) ≡ false
    by n lt true e = so_far.none n (grind (arith, e))
    by n lt false e = let same : n ≡ k = grind (arith, e, lt) in ap (λ m. f (live_at ss m)) same ∙ is

pub written_all : (f : Option Reference → Bool) (ss : List Slot) (k : ℕ) → f None ≡ false → length ss ≤ k → IsNone f ss k → (n : ℕ) → f (live_at ss n) ≡ false
written_all f ss k is past so_far n = by (nat_lt n k) refl
  where
    by : (b : Bool) → nat_lt n k ≡ b → f (live_at ss n) ≡ false
    by true e = so_far.none n (grind (arith, e))
    by false e = let late : length ss ≤ n = grind (arith, e, past) in ap f (past_end ss n late) ∙ is
