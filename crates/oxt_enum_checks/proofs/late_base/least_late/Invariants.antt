-- What is known so far and the blocks that are left decide.
use Rattle.std.proofs.Common.{◌≡◌, drop, option_map}
use Rattle.oxt_enum_checks.specs.LateBase.{least_late}
use Rattle.oxt_enum_checks.specs.Places.{places_in}
use Rattle.oxt_enum_checks.proofs.Lates.{least_from}
use Rattle.oxt_enum_checks.proofs.late_base.least_late.Given as goal

abbrev pub invariant-loop-block : goal.invariant-loop-block
invariant-loop-block l = least_late l.scoping (places_in l.places) l.blocks ≡ least_from l.scoping (places_in l.places) (option_map (λ node. node.0) l.least) (drop l.block-index l.blocks)
