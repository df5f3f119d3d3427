use Rattle.std.proofs.Common.{string_bytes}
use Rattle.oxt_scoping.specs.Entries.{ScopeData, bind}
use Rattle.oxt_scoping.proofs.Changes.{on_changed}
use Rattle.oxt_scoping.proofs.places.bind_in.Goals as goal

pub returns-clause-bound : goal.returns-clause-bound
returns-clause-bound c =
    on_changed (λ (x : ScopeData). record x { bindings = bind (string_bytes c.args.name) c.args.symbol x.bindings }) c.bind.result
    c.args.scopes.now.items c.args.scope.0 c.index_mut-entry.result.now c.bind.new.self c.requires c.index_mut-entry.ensures.value c.bind.ensures.bound
