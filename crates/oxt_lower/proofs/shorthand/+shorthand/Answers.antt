use Rattle.std.proofs.Common.{arith, rules}
use Rattle.oxt_lower.proofs.Weights.{lighter_set}
use Rattle.oxt_lower.proofs.shorthand.+shorthand.Goals as goal

pub open_each-loop-i-preserved : goal.open_each-loop-i-preserved
open_each-loop-i-preserved t c = record {
  unvisited = search rules;
  lighter = lighter_set c.args.parts.now.items c.loop-i.parts.items c.loop-i.i c.index_mut.result.now c.open_part.new.part (omega arith) c.index_mut.ensures.value c.open_part.ensures c.loop-i.invariant.lighter;
}
