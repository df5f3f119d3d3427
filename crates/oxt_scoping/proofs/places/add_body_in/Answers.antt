use Rattle.std.proofs.Common.{◌++◌, ◌∷◌, []}
use Rattle.oxt_scoping.specs.Entries.{SymbolData}
use Rattle.oxt_scoping.proofs.Changes.{on_changed}
use Rattle.oxt_scoping.proofs.places.add_body_in.Goals as goal

pub returns-clause-pushed : goal.returns-clause-pushed
returns-clause-pushed c =
    on_changed (λ (y : SymbolData). record y { bodies = y.bodies ++ c.args.scope ∷ [] }) c.push_body.result
    c.args.symbols.now.items c.args.symbol.0 c.index_mut-entry.result.now c.push_body.new.self c.requires c.index_mut-entry.ensures.value c.push_body.ensures.pushed
