use Rattle.std.proofs.Common.{arith}
use Rattle.oxt_resolve.proofs.Folds.{fold_end, fold_next}
use Rattle.oxt_declares.specs.Declarations.{declared_view}
use Rattle.oxt_resolve.specs.Groups.{first_at, noted}
use Rattle.oxt_resolve.proofs.firsts.Firsts.note_each.Goals as goal

pub loop-declaration-preserved : goal.loop-declaration-preserved
loop-declaration-preserved c = fold_next (noted c.args.scope.now.number.0) declared_view c.args.scope.now.declarations.items c.loop-declaration.declaration-index c.declaration-item.result _ (first_at c.loop-declaration.self) (first_at c.note.new.self) (omega arith) (rw c.as_slice-declaration-items.ensures.value at c.declaration-item.is) c.loop-declaration.invariant c.in_ok-note.ensures

pub returns : goal.returns
returns c = fold_end (noted c.args.scope.now.number.0) declared_view c.args.scope.now.declarations.items c.loop-declaration.declaration-index _ (first_at c.loop-declaration.self) (omega arith) c.loop-declaration.invariant
