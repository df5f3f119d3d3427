use Rattle.std.proofs.Common.{ap, ◌∙◌, filter}
use Rattle.oxt_scoping.specs.Entries.{Bindings, spelled}
use Rattle.oxt_scoping.specs.Scoped.{stays}
use Rattle.oxt_scoping.proofs.Bound.{bound_kept, rebound}
use Rattle.oxt_scoping.proofs.entry.ScopeEntry.keep_values.Goals as goal

pub returns : goal.returns
returns c =
    rebound (λ (bs : Bindings). filter (λ b. stays c.args.symbols.now b.1) bs) c.self.inside.parent c.self.inside.flags (spelled c.self.inside.bindings.entries) (spelled c.keep_bound_values.new.bindings.entries) c.args.self.now c.self.view_is
    (ap spelled c.keep_bound_values.ensures ∙ bound_kept (stays c.args.symbols.now) c.self.inside.bindings.entries)
