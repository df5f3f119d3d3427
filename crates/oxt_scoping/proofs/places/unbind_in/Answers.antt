use Rattle.oxt_scoping.specs.Entries.{ScopeData, unbind}
use Rattle.oxt_scoping.proofs.Changes.{set_changed}
use Rattle.oxt_scoping.proofs.places.unbind_in.Goals as goal

pub returns : goal.returns
returns c =
    set_changed (λ (x : ScopeData). record x { bindings = unbind c.args.name.now x.bindings })
    c.args.scopes.now.items c.args.scope.0 c.index_mut-entry.result.now c.unbind.new.self c.requires c.index_mut-entry.ensures.value c.unbind.ensures
