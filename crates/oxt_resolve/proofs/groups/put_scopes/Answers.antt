use Rattle.std.proofs.Common.{arith}
use Rattle.oxt_resolve.proofs.Folds.{fold_end, fold_next}
use Rattle.oxt_resolve.specs.Groups.{first_at, with_scope}
use Rattle.oxt_scopes.specs.Views.{opened_view}
use Rattle.oxt_resolve.proofs.groups.put_scopes.Goals as goal

pub loop-scope-preserved : goal.loop-scope-preserved
loop-scope-preserved c = fold_next (with_scope (first_at c.args.firsts.now)) opened_view c.args.scopes.now c.loop-scope.scope-index c.scope-item.result _ c.loop-scope.groups c.put_scope.new.groups (omega arith) c.scope-item.is c.loop-scope.invariant c.in_ok-put_scope.ensures

pub returns : goal.returns
returns c = fold_end (with_scope (first_at c.args.firsts.now)) opened_view c.args.scopes.now c.loop-scope.scope-index _ c.loop-scope.groups (omega arith) c.loop-scope.invariant
