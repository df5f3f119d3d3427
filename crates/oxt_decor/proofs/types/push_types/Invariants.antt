-- The records around are the same, and as many lists of declarators are open.
use Rattle.std.proofs.Common.{◌≡◌, length}
use Rattle.oxt_stores.specs.Frame.{frames}
use Rattle.oxt_decor.proofs.types.push_types.Given as goal

abbrev pub invariant-loop-parameter : goal.invariant-loop-parameter
invariant-loop-parameter l = record {
  around : l.ctx.ancestors ≡ l.initial.ctx.ancestors;
  depth : length (frames l.ctx.declarations) ≡ length (frames l.initial.ctx.declarations);
}
