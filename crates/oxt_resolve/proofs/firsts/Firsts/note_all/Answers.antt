use Rattle.std.proofs.Common.{arith}
use Rattle.oxt_resolve.proofs.Folds.{fold_end, fold_next}
use Rattle.oxt_resolve.specs.Groups.{first_at, noted_in}
use Rattle.oxt_scopes.specs.Views.{opened_view}
use Rattle.oxt_resolve.proofs.firsts.Firsts.note_all.Goals as goal

pub loop-scope-preserved : goal.loop-scope-preserved
loop-scope-preserved c = fold_next noted_in opened_view c.args.scopes.now c.loop-scope.scope-index c.scope-item.result _ (first_at c.loop-scope.self) (first_at c.note_each.new.self) (omega arith) c.scope-item.is c.loop-scope.invariant c.in_ok-note_each.ensures

pub returns : goal.returns
returns c = fold_end noted_in opened_view c.args.scopes.now c.loop-scope.scope-index _ (first_at c.loop-scope.self) (omega arith) c.loop-scope.invariant
