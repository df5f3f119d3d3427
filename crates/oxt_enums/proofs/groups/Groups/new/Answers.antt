use Rattle.std.proofs.Common.{arith}
use Rattle.oxt_enums.proofs.Grouping.{groups_next, same_get}
use Rattle.oxt_enums.proofs.groups.Groups.new.Goals as goal

pub loop-block-preserved : goal.loop-block-preserved
loop-block-preserved c = groups_next c.args.blocks.now _ _ c.loop-block.block-index _ (omega arith) (same_get c.args.blocks.now c.loop-block.block-index _) c.loop-block.invariant c.in_ok-put_block.ensures
