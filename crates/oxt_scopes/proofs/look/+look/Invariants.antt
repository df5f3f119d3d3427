-- The scopes become fewer.
use Rattle.std.proofs.Common.{length}
use Rattle.oxt_scopes.proofs.look.+look.Given as goal

abbrev pub decreases-look : goal.decreases-look
decreases-look l = length l.scopes.now
