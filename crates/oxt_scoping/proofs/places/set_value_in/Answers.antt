use Rattle.std.proofs.Common.{Some}
use Rattle.oxt_names.specs.Constant.{constant_view}
use Rattle.oxt_scoping.specs.Entries.{SymbolData}
use Rattle.oxt_scoping.proofs.Changes.{set_changed}
use Rattle.oxt_scoping.proofs.places.set_value_in.Goals as goal

pub returns : goal.returns
returns c =
    set_changed (λ (y : SymbolData). record y { value = Some (constant_view c.args.value) })
    c.args.symbols.now.items c.args.symbol.0 c.index_mut-entry.result.now c.set_value.new.self c.requires c.index_mut-entry.ensures.value c.set_value.ensures
