-- A product that would pass the largest is a power whose further powers pass it too.
use Rattle.oxt_constant.proofs.Powers.{passed_power}
use Rattle.oxt_constant.proofs.integer.size_of_growing_power.Goals as goal

pub returns-then-product-size : goal.returns-then-product-size
returns-then-product-size c =
    passed_power c.loop-turn.product c.args.size c.loop-turn.turn c.args.exponent
    c.requires c.loop-turn.invariant.is_power c.if-product-size.true c.loop-turn-test.true
