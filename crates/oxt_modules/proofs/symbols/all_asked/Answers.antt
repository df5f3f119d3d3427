-- One more symbol is asked.
use Rattle.oxt_modules.proofs.Tables.{asked_next}
use Rattle.oxt_modules.specs.Marked.{beside}
use Rattle.oxt_modules.proofs.symbols.all_asked.Goals as goal

pub loop-i-preserved : goal.loop-i-preserved
loop-i-preserved c =
    asked_next (beside c.args.marked.now c.args.scoping.now).references c.args.scoping.now.symbols c.loop-i.out.items c.push.new.self.items c.loop-i.i c.asked.result c.asked.ensures c.loop-i.invariant c.in_ok-push.ensures.items
