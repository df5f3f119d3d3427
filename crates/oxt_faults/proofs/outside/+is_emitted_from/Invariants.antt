-- Fewer scopes are left.
use Rattle.oxt_faults.proofs.outside.+is_emitted_from.Given as goal

abbrev pub decreases-is_emitted_from : goal.decreases-is_emitted_from
decreases-is_emitted_from l = l.left
