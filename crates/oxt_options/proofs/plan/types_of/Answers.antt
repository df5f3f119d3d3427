-- One type is put after the other.
use Rattle.oxt_options.proofs.Tables.{one_put, each_put}
use Rattle.oxt_options.proofs.plan.types_of.Goals as goal

pub loop-noted-preserved : goal.loop-noted-preserved
loop-noted-preserved c =
    one_put c.args.types.now c.args.types.now c.loop-noted.noted-index _ c.loop-noted.table.entries c.put.new.table.entries c.loop-noted-test.true c.in_ok-put.ensures c.loop-noted.invariant

pub returns : goal.returns
returns c = each_put c.args.types.now c.args.types.now c.loop-noted.noted-index c.loop-noted.table.entries c.loop-noted-test.false c.loop-noted.invariant
