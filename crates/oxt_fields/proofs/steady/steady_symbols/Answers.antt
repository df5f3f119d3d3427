use Rattle.std.proofs.Common.{rules}
use Rattle.oxt_fields.proofs.Symbols.{noted_more}
use Rattle.oxt_fields.proofs.steady.steady_symbols.Goals as goal

pub loop-marks-preserved : goal.loop-marks-preserved
loop-marks-preserved c =
    noted_more _ c.args.scoping.now.symbols c.loop-marks.marks.items c.push.new.self.items c.len-in-loop-marks.result c.is_steady-mark.result
    (search rules) c.is_steady-mark.ensures c.in_ok-push.ensures.items c.loop-marks.invariant
