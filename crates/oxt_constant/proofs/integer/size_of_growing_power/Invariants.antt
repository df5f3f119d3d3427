-- The product so far is the power so far, and not past the largest.
use Rattle.std.proofs.Common.{◌≡◌, ◌^◌, ◌≤◌}
use Rattle.oxt_constant.specs.Integer.{largest}
use Rattle.oxt_constant.proofs.integer.size_of_growing_power.Given as goal

abbrev pub invariant-loop-turn : goal.invariant-loop-turn
invariant-loop-turn l = record { is_power : l.product ≡ l.fn.size ^ l.turn; exact : l.product ≤ largest }
