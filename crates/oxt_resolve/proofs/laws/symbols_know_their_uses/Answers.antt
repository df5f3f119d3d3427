use Rattle.oxt_resolve.proofs.Meanings.{knows_uses}
use Rattle.oxt_resolve.proofs.laws.symbols_know_their_uses.Goals as goal

pub returns : goal.returns
returns c = knows_uses
