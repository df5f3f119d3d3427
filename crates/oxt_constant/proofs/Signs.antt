-- The sign of a number.
use Rattle.std.proofs.Common.{◌≡◌, refl, ℤ, pos, negsuc, arith}
use lib.Signed.{lt_z}
use Rattle.oxt_names.specs.Constant.{is_negative}

pub below_zero : (z : ℤ) → lt_z z (pos 0) ≡ is_negative z
below_zero (pos n) = grind arith
below_zero (negsuc n) = refl
