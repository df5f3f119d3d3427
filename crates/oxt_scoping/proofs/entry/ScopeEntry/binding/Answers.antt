use Rattle.std.proofs.Common.{ap, ◌∙◌}
use Rattle.oxt_scoping.specs.Entries.{ScopeData, bound_to}
use Rattle.oxt_scoping.proofs.Bound.{bound_found}
use Rattle.oxt_scoping.proofs.entry.ScopeEntry.binding.Goals as goal

pub returns : goal.returns
returns c =
    c.copied.ensures ∙ c.get.ensures.value ∙ bound_found c.args.name.now c.self.inside.bindings.entries
    ∙ ap (λ (s : ScopeData). bound_to c.args.name.now s.bindings) c.self.view_is
