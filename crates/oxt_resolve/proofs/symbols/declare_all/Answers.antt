use Rattle.std.proofs.Common.{arith}
use Rattle.oxt_resolve.proofs.Folds.{fold_end, fold_next}
use Rattle.oxt_resolve.specs.Resolved.{with_declarations}
use Rattle.oxt_scopes.specs.Views.{opened_view}
use Rattle.oxt_resolve.proofs.symbols.declare_all.Goals as goal

pub loop-scope-preserved : goal.loop-scope-preserved
loop-scope-preserved c = fold_next with_declarations opened_view c.args.scopes.now c.loop-scope.scope-index c.scope-item.result _ c.loop-scope.table c.declare_each.new.table (omega arith) c.scope-item.is c.loop-scope.invariant c.in_ok-declare_each.ensures

pub returns : goal.returns
returns c = fold_end with_declarations opened_view c.args.scopes.now c.loop-scope.scope-index _ c.loop-scope.table (omega arith) c.loop-scope.invariant
