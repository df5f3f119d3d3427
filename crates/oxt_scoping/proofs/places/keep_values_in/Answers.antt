use Rattle.std.proofs.Common.{arith}
use Rattle.oxt_scoping.proofs.Changes.{front_whole, one_further}
use Rattle.oxt_scoping.specs.Entries.{keeping}
use Rattle.oxt_scoping.specs.Scoped.{stays}
use Rattle.oxt_scoping.proofs.places.keep_values_in.Goals as goal

pub loop-i-preserved : goal.loop-i-preserved
loop-i-preserved c =
    one_further (keeping (stays c.args.symbols.now)) c.args.scopes.now.items c.loop-i.scopes.items c.loop-i.i c.index_mut-entry.result.now c.keep_values.new.self c.loop-i.invariant (omega (arith, c.args.scopes.now.ok.0)) c.index_mut-entry.ensures.value c.keep_values.ensures

pub returns : goal.returns
returns c = front_whole (keeping (stays c.args.symbols.now)) c.args.scopes.now.items c.loop-i.scopes.items c.loop-i.i c.loop-i.invariant (omega (arith, c.args.scopes.now.ok.0))
