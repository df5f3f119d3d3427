use Rattle.oxt_traverse.proofs.Imports.{declared_at_top}
use Rattle.oxt_traverse.proofs.Logs.{on_ok}
use Rattle.oxt_traverse.proofs.close.declare_at_top.Goals as goal

pub returns-clause-declared : goal.returns-clause-declared
returns-clause-declared c =
    on_ok c.insert_at-2.result (λ second. declared_at_top c.args.statements.now.items c.insert_at.new.statements.items c.insert_at-2.new.statements.items _ _ _ _ c.in_ok-by_var.ensures.by_var c.in_ok-by_var.ensures.by_let c.in_ok-insert_at.ensures second) c.insert_at-2.ensures
