-- Fewer scopes are left.
use Rattle.oxt_scoping.proofs.places.+find_within.Given as goal

abbrev pub decreases-find_within : goal.decreases-find_within
decreases-find_within l = l.left
