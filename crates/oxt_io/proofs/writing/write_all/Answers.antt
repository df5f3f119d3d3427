use Rattle.std.proofs.Common.{arith}
use Rattle.std.proofs.lemmas.Grind.{common_steps}
use Rattle.oxt_io.proofs.InTurn.{Appends-next}
use Rattle.oxt_io.proofs.writing.write_all.Goals as goal

pub loop-done-preserved : goal.loop-done-preserved
loop-done-preserved g c = record {
  within = grind (arith, common_steps);
  took = Appends-next _ _ _ _ _ _ c.loop-done.invariant.took c.in_ok-done.ensures.bytes;
  later = omega arith;
}
