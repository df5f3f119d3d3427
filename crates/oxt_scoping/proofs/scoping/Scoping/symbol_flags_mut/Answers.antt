-- What is lent is that part, and the table has what is left behind it.
use Rattle.std.proofs.Common.{◌<◌, length, refl, subst, sym}
use Rattle.oxt_scoping.specs.Scoped.{Scoped}
use Rattle.oxt_scoping.proofs.Lent.{symbol_lent, symbol_shown}
use Rattle.oxt_scoping.proofs.Sound.{table_of}
use Rattle.oxt_scoping.proofs.scoping.Scoping.symbol_flags_mut.Goals as goal

pub returns : goal.returns
returns c =
    let within : c.args.symbol.0 < length c.self.inside.symbols.items = subst (λ (s : Scoped). c.args.symbol.0 < length s.symbols) (sym c.self.view_is) c.requires in (
      (refl, λ w. symbol_lent (table_of c.self.inside) c.args.self.now c.args.symbol.0 c.index_mut-entry.result.now w c.self.view_is within c.index_mut-entry.ensures.value),
      record { writes_back = tt; value = symbol_shown (table_of c.self.inside) c.args.self.now c.args.symbol.0 c.index_mut-entry.result.now c.flags_mut.result.now c.self.view_is within c.index_mut-entry.ensures.value c.flags_mut.ensures.value },
    )
