use Rattle.std.proofs.Common.{arith, sym}
use Rattle.oxt_scoping.specs.Entries.{SymbolData, without}
use Rattle.oxt_scoping.proofs.Changes.{set_changed, unchanged_at}
use Rattle.oxt_scoping.proofs.places.remove_in.Goals as goal

pub returns-then-symbol-len : goal.returns-then-symbol-len
returns-then-symbol-len c =
    set_changed (λ (y : SymbolData). record y { references = without c.args.reference y.references })
    c.args.symbols.now.items c.args.symbol.0 c.index_mut-entry.result.now c.remove_reference.new.self (omega (arith, c.if-symbol-len.true, c.len.ensures, c.args.symbols.now.ok.0)) c.index_mut-entry.ensures.value c.remove_reference.ensures

pub returns-else-symbol-len : goal.returns-else-symbol-len
returns-else-symbol-len c =
    sym (unchanged_at (λ (y : SymbolData). record y { references = without c.args.reference y.references })
    c.args.symbols.now.items c.args.symbol.0 (omega (arith, c.if-symbol-len.false, c.len.ensures, c.args.symbols.now.ok.0)))
