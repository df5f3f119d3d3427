use Rattle.std.proofs.Common.{ap, ◌∙◌}
use Rattle.oxt_scoping.specs.Entries.{spelled, unbind}
use Rattle.oxt_scoping.proofs.Bound.{bound_removed, rebound}
use Rattle.oxt_scoping.proofs.entry.ScopeEntry.unbind.Goals as goal

pub returns : goal.returns
returns c =
    rebound (unbind c.args.name.now) c.self.inside.parent c.self.inside.flags (spelled c.self.inside.bindings.entries) (spelled c.remove.new.self.entries) c.args.self.now c.self.view_is
    (ap spelled c.remove.ensures.entries ∙ bound_removed c.args.name.now c.self.inside.bindings.entries)
