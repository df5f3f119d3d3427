use Rattle.oxt_enums.proofs.Evaluations.{one_counted, one_told}
use Rattle.oxt_enums.proofs.constants.Evaluated.add.Goals as goal

pub returns-clause-told : goal.returns-clause-told
returns-clause-told c =
    one_told c.args.owners.now c.args.homes.now c.args.self.now _ c.args.member.now c.block_of-block.result c.in_ok-before.before c.in_ok-value.value c.is_wide_in-is_wide.result
    c.block_of-block.ensures c.in_ok-before.ensures c.is_wide_in-is_wide.ensures c.in_ok-value.ensures c.in_ok-put.ensures c.in_ok-push.ensures.items

pub returns-clause-counted : goal.returns-clause-counted
returns-clause-counted c =
    one_counted c.args.self.now.constants.items _ _ _ _ c.in_ok-push.ensures.items c.in_ok-hold.ensures.counted
