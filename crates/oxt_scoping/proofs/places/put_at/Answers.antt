use Rattle.oxt_scoping.proofs.Tables.{undone}
use Rattle.oxt_scoping.proofs.places.put_at.Goals as goal

pub returns-clause-undone : goal.returns-clause-undone
returns-clause-undone g c =
    undone c.args.node c.args.value c.in_ok-before.before c.args.table.now.entries c.insert.new.self.entries c.insert.ensures.was_ordered c.in_ok-before.ensures.old c.in_ok-before.ensures.entries
