use Rattle.oxt_check.proofs.Kept.{plain_beside_nothing}
use Rattle.oxt_check.proofs.laws.plain_beside_nothing.Goals as goal

pub returns : goal.returns
returns c = plain_beside_nothing
