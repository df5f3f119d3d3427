use Rattle.std.proofs.Common.{arith}
use Rattle.oxt_resolve.proofs.Folds.{fold_end, fold_next}
use Rattle.oxt_resolve.specs.Resolved.{with_enums}
use Rattle.oxt_resolve.specs.Values.{values_in}
use Rattle.oxt_scopes.specs.Views.{opened_view}
use Rattle.oxt_resolve.proofs.enums.tell_all.Goals as goal

pub loop-scope-preserved : goal.loop-scope-preserved
loop-scope-preserved c = fold_next (with_enums (values_in c.args.enums.now)) opened_view c.args.scopes.now c.loop-scope.scope-index c.scope-item.result _ c.loop-scope.table c.tell_each.new.table (omega arith) c.scope-item.is c.loop-scope.invariant c.in_ok-tell_each.ensures

pub returns : goal.returns
returns c = fold_end (with_enums (values_in c.args.enums.now)) opened_view c.args.scopes.now c.loop-scope.scope-index _ c.loop-scope.table (omega arith) c.loop-scope.invariant
