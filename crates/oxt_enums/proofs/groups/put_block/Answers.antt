use Rattle.std.proofs.Common.{refl}
use Rattle.oxt_enums.proofs.Grouping.{block_put}
use Rattle.oxt_enums.proofs.groups.put_block.Goals as goal

pub returns : goal.returns
returns c =
    block_put (c.args.block.now.scope.0, c.args.block.now.name) c.in_ok-with_block.field-0 c.empty.result c.args.block.now c.in_ok-before.before c.args.groups.now.entries _ _ refl
    c.in_ok-before.ensures.old c.in_ok-before.ensures.updates c.in_ok-insert.ensures.updates c.in_ok-with_block.ensures
