-- Only the table of names, the declarators and the next number have changed, and as many lists are open.
use Rattle.std.proofs.Common.{◌≡◌, length}
use Rattle.oxt_ctx.specs.Made.{but_names_of}
use Rattle.oxt_stores.specs.Frame.{frames}
use Rattle.oxt_class.proofs.moving.move_each.Given as goal

abbrev pub invariant-loop-element : goal.invariant-loop-element
invariant-loop-element l = record {
  frame : l.ctx ≡ but_names_of l.initial.ctx l.ctx;
  depth : length (frames l.ctx.declarations) ≡ length (frames l.initial.ctx.declarations);
}
