-- Powers, as far as they are constants.
use Rattle.std.proofs.Common.{ℕ, zero, suc, ◌+◌, ◌*◌, ◌/◌, ◌^◌, ◌<◌, ◌≤◌, ◌≡◌, ◌≢◌, refl, sym, ap, ◌∙◌, Some, None, arith}
use Rattle.std.proofs.Math.Nat.{pow-le-pow_right, pow-suc, div-lt_iff_lt-mul}
use Rattle.oxt_constant.specs.Integer.{bounded, largest}

zero_power : (e : ℕ) → 0 ^ suc e ≡ 0
zero_power e = pow-suc 0 e ∙ omega arith

one_power : (e : ℕ) → 1 ^ e ≡ 1
one_power zero = refl
one_power (suc e) = pow-suc 1 e ∙ ap (λ n. n * 1) (one_power e)

pub power_more : (size i e : ℕ) → e ≡ i + 1 → size ^ e ≡ size ^ i * size
power_more size i e h = ap (λ n. size ^ n) (h ∙ omega arith) ∙ pow-suc size i

pub small_power : (size e : ℕ) → size < 2 → e ≢ 0 → Some size ≡ bounded (size ^ e)
small_power size zero h k = absurd (k refl)
small_power zero (suc e) h k = ap bounded (sym (zero_power e))
small_power (suc zero) (suc e) h k = ap bounded (sym (one_power (suc e)))
small_power (suc (suc n)) (suc e) h k = absurd (omega arith)

not_bounded : (n : ℕ) → largest < n → None ≡ bounded n
not_bounded n h = grind arith

pub passed_power : (product size i e : ℕ) → 1 < size → product ≡ size ^ i → largest / size < product → i < e → None ≡ bounded (size ^ e)
passed_power product size i e big here passed below =
    let k : 0 < size = omega arith in
    let more : largest < product * size = (div-lt_iff_lt-mul k).0 passed in
    let next : size ^ (i + 1) ≡ size ^ i * size = power_more size i (i + 1) refl in
    let after : i + 1 ≤ e = omega arith in
    let up : size ^ (i + 1) ≤ size ^ e = pow-le-pow_right k after in
    not_bounded (size ^ e) (omega (arith, ap (λ n. n * size) here))
