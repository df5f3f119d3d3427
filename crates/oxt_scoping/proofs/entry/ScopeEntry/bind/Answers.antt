use Rattle.std.proofs.Common.{ap, ◌∙◌, string_bytes}
use Rattle.oxt_scoping.specs.Entries.{bind, spelled}
use Rattle.oxt_scoping.proofs.Bound.{bound_inserted, rebound}
use Rattle.oxt_scoping.proofs.entry.ScopeEntry.bind.Goals as goal

pub returns-clause-bound : goal.returns-clause-bound
returns-clause-bound c =
    rebound (bind (string_bytes c.args.name) c.args.symbol) c.self.inside.parent c.self.inside.flags (spelled c.self.inside.bindings.entries) (spelled c.insert.new.self.entries) c.args.self.now c.self.view_is
    (ap spelled c.in_ok-insert.ensures.entries ∙ bound_inserted c.self.inside.bindings.entries c.args.name c.args.symbol)
