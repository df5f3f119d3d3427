use Rattle.std.proofs.Common.{refl}
use Rattle.oxt_scoping.specs.Scoped.{with_symbol_flags}
use Rattle.oxt_resolve.proofs.Steps.{again_is}
use Rattle.oxt_resolve.proofs.symbols.declare_again.Goals as goal

pub returns : goal.returns
returns c =
    again_is c.args.symbol c.args.declaration c.args.table.now c.declare_again.new.self (record c.declare_again.new.self { symbols = with_symbol_flags c.args.symbol.0 c.joined-flags.result c.declare_again.new.self.symbols }) c.symbol_flags.result c.joined-flags.result c.in_ok-declare_again.ensures.declared refl c.joined-flags.ensures c.symbol_flags.ensures
