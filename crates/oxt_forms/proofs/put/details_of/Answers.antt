use Rattle.std.proofs.Common.{arith}
use Rattle.oxt_forms.proofs.Details.{detail_more, no_more_parts}
use Rattle.oxt_forms.proofs.put.details_of.Goals as goal

pub returns-in-None : goal.returns-in-None
returns-in-None c = no_more_parts _ _ c.args.rows.now c.args.parts.now c.loop-i.i c.in-None.ensures.lookup.3 c.loop-i.invariant

pub loop-i-preserved : goal.loop-i-preserved
loop-i-preserved c = detail_more _ c.args.rows.now c.args.parts.now c.loop-i.i _ c.in-Some.part.now _ _ (omega arith) c.in-Some.ensures.lookup.3.0 c.in-Some.ensures.lookup.1 c.in_ok-put_detail-in-Some.ensures c.loop-i.invariant
