-- The least so far, with what is left, decides.
use Rattle.std.proofs.Common.{◌≡◌, drop, fold, map, option_map}
use Rattle.oxt_faults.specs.Initializers.{least, lesser}
use Rattle.oxt_faults.specs.Level.{found_view}
use Rattle.oxt_faults.proofs.initializer.least.Given as goal

abbrev pub invariant-loop-word : goal.invariant-loop-word
invariant-loop-word l = least (map found_view l.words) ≡ fold lesser (option_map found_view l.least) (map found_view (drop l.word-index l.words))
