use Rattle.oxt_resolve.proofs.Meanings.{means_owners}
use Rattle.oxt_resolve.proofs.laws.references_mean_their_owners.Goals as goal

pub returns : goal.returns
returns c = means_owners
