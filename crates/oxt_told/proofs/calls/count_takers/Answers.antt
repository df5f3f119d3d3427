-- The chain counts by the test; the search ends sooner with no other lemma in its list.
use Rattle.std.proofs.Common.{rules}
use Rattle.oxt_told.proofs.calls.count_takers.Goals as goal

pub returns : goal.returns
returns c = search rules
