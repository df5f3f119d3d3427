-- No member so far would be too large.
use Rattle.std.proofs.Common.{◌≡◌, drop}
use Rattle.oxt_enums.proofs.Wide.{first_in}
use Rattle.oxt_enums.proofs.enums.EnumConstants.first_wide.Given as goal

abbrev pub invariant-loop-constant : goal.invariant-loop-constant
invariant-loop-constant l = first_in l.self.members.constants.items ≡ first_in (drop l.constant-index l.self.members.constants.items)
