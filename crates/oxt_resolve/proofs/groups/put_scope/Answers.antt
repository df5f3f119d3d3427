use Rattle.std.proofs.Common.{arith}
use Rattle.oxt_resolve.proofs.Folds.{fold_end, fold_next}
use Rattle.oxt_declares.specs.Declarations.{declared_view}
use Rattle.oxt_resolve.specs.Groups.{first_at, with_declared}
use Rattle.oxt_resolve.proofs.groups.put_scope.Goals as goal

pub loop-declaration-preserved : goal.loop-declaration-preserved
loop-declaration-preserved c = fold_next (with_declared (first_at c.args.firsts.now) c.args.scope.now.number.0) declared_view c.args.scope.now.declarations.items c.loop-declaration.declaration-index c.declaration-item.result _ c.loop-declaration.groups c.put_declared.new.groups (omega arith) (rw c.as_slice-declaration-items.ensures.value at c.declaration-item.is) c.loop-declaration.invariant c.in_ok-put_declared.ensures

pub returns : goal.returns
returns c = fold_end (with_declared (first_at c.args.firsts.now) c.args.scope.now.number.0) declared_view c.args.scope.now.declarations.items c.loop-declaration.declaration-index _ c.loop-declaration.groups (omega arith) c.loop-declaration.invariant
