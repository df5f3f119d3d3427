-- The earliest so far, with the classes that are left, decides.
use Rattle.std.proofs.Common.{◌≡◌, drop, fold, map, None, option_map}
use Rattle.oxt_class_checks.proofs.Behind.{class_doc}
use Rattle.oxt_class_checks.specs.Moved.{capture_behind}
use Rattle.oxt_faults.specs.Earliest.{moved_view}
use Rattle.oxt_class_checks.proofs.moved.first_behind.Given as goal

abbrev pub invariant-loop-class : goal.invariant-loop-class
invariant-loop-class l = fold capture_behind None (map class_doc l.classes) ≡ fold capture_behind (option_map moved_view l.least) (map class_doc (drop l.class-index l.classes))
