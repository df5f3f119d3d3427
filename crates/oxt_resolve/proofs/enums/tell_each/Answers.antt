use Rattle.std.proofs.Common.{arith}
use Rattle.oxt_declares.specs.Declarations.{declared_view}
use Rattle.oxt_resolve.proofs.Folds.{fold_end, fold_next}
use Rattle.oxt_resolve.specs.Resolved.{with_enum}
use Rattle.oxt_resolve.specs.Values.{values_in}
use Rattle.oxt_resolve.proofs.enums.tell_each.Goals as goal

pub loop-declaration-preserved : goal.loop-declaration-preserved
loop-declaration-preserved c = fold_next (with_enum (values_in c.args.enums.now) c.args.scope.now.number.0) declared_view c.args.scope.now.declarations.items c.loop-declaration.declaration-index c.declaration-item.result _ c.loop-declaration.table c.tell.new.table (omega arith) (rw c.as_slice-declaration-items.ensures.value at c.declaration-item.is) c.loop-declaration.invariant c.in_ok-tell.ensures

pub returns : goal.returns
returns c = fold_end (with_enum (values_in c.args.enums.now) c.args.scope.now.number.0) declared_view c.args.scope.now.declarations.items c.loop-declaration.declaration-index _ c.loop-declaration.table (omega arith) c.loop-declaration.invariant
