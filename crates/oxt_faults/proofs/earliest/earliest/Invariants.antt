-- The earliest so far, with what is left, decides.
use Rattle.std.proofs.Common.{◌≡◌, drop, fold, map, option_map}
use Rattle.oxt_faults.specs.Earliest.{earlier_of, earliest, moved_view}
use Rattle.oxt_faults.proofs.earliest.earliest.Given as goal

abbrev pub invariant-loop-name : goal.invariant-loop-name
invariant-loop-name l = earliest (map moved_view l.found) ≡ fold earlier_of (option_map moved_view l.least) (map moved_view (drop l.name-index l.found))
