use Rattle.oxt_resolve.proofs.Holding.{joins_flags}
use Rattle.oxt_resolve.proofs.laws.symbols_join_their_flags.Goals as goal

pub returns : goal.returns
returns c = joins_flags
