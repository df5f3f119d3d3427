-- One statement more is looked at.
use Rattle.oxt_modules.proofs.Marks.{one_marked}
use Rattle.oxt_modules.proofs.marked.mark_statements.Goals as goal

pub loop-behind-preserved : goal.loop-behind-preserved
loop-behind-preserved c = (
  one_marked c.args.scoping.now c.args.statements.now c.loop-behind.behind c.index-statements-statements.result c.loop-behind.marked c.in_ok-marked.marked
      c.loop-behind-test.true c.index-statements-statements.is c.loop-behind.invariant.0 c.in_ok-marked.ensures.names,
  c.in_ok-marked.ensures.passed,
)
