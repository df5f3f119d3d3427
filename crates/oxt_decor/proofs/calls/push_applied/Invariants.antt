-- The records around are the same, and as many lists of declarators are open.
use Rattle.std.proofs.Common.{◌≡◌, length}
use Rattle.oxt_stores.specs.Frame.{frames}
use Rattle.oxt_decor.proofs.calls.push_applied.Given as goal

abbrev pub invariant-loop-decorator : goal.invariant-loop-decorator
invariant-loop-decorator l = record {
  around : l.ctx.ancestors ≡ l.initial.ctx.ancestors;
  depth : length (frames l.ctx.declarations) ≡ length (frames l.initial.ctx.declarations);
}
