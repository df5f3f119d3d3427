-- Where each scope has a greater number than the one around it, looking through more scopes finds nothing
-- more.
use Rattle.std.proofs.Common.{◌≡◌, ℕ, zero, suc, ◌<◌, ◌≤◌, List, ◌||◌, Option, None, Some, IfSome, refl, ap, arith}
use Rattle.std.specs.Prelude.{slice_get}
use Rattle.oxt_faults.specs.Captured.{around, emits_at, emits_from, emits_outside}
use Rattle.oxt_scoping.specs.Scoped.{Scoped}
use Rattle.oxt_names.specs.declared.ids.ScopeId.{ScopeId}

-- the scope around one has a smaller number
abbrev pub IsNested : Scoped → Type 0
IsNested s = (i : ℕ) → IfSome (around (slice_get s.scopes i)) (λ p. p.0 < i)

below : (m i : ℕ) (o : Option ScopeId) → i < suc m → IfSome o (λ p. p.0 < i) → IfSome o (λ p. p.0 < m)
below m i None lt h = tt
below m i (Some p) lt h = omega arith

same : (m n : ℕ) (s : Scoped) (t : List ℕ) (o : Option ScopeId) → IsNested s → IfSome o (λ p. p.0 < m) → IfSome o (λ p. p.0 < n) → emits_from m s t o ≡ emits_from n s t o
same zero zero s t o nested h k = refl
same zero (suc n) s t None nested h k = refl
same zero (suc n) s t (Some i) nested h k = absurd (omega arith)
same (suc m) zero s t None nested h k = refl
same (suc m) zero s t (Some i) nested h k = absurd (omega arith)
same (suc m) (suc n) s t None nested h k = refl
same (suc m) (suc n) s t (Some i) nested h k =
    ap (λ b. emits_at s t i || b) (same m n s t (around (slice_get s.scopes i.0)) nested (below m i.0 (around (slice_get s.scopes i.0)) h (nested i.0)) (below n i.0 (around (slice_get s.scopes i.0)) k (nested i.0)))

wider : (i n : ℕ) (o : Option ScopeId) → i ≤ n → IfSome o (λ p. p.0 < i) → IfSome o (λ p. p.0 < n)
wider i n None le h = tt
wider i n (Some p) le h = omega arith

-- through at least as many as its number: all that are further out
pub all_outside : (n : ℕ) (s : Scoped) (t : List ℕ) (i : ScopeId) → IsNested s → i.0 ≤ n → emits_from n s t (around (slice_get s.scopes i.0)) ≡ emits_outside s t i
all_outside n s t i nested le = same n i.0 s t (around (slice_get s.scopes i.0)) nested (wider i.0 n (around (slice_get s.scopes i.0)) le (nested i.0)) (nested i.0)
