-- What was found so far stands in front of what is left.
use Rattle.std.proofs.Common.{◌≡◌, ◌++◌, map, drop}
use Rattle.oxt_class_checks.proofs.Behind.{class_doc}
use Rattle.oxt_class_checks.specs.Classes.{classes_among}
use Rattle.oxt_tree.specs.View.{docs_in}
use Rattle.oxt_class_checks.proofs.classes.+classes.Given as goal

abbrev pub invariant-push_among-loop-i : goal.invariant-push_among-loop-i
invariant-push_among-loop-i l = map class_doc l.initial.out.items ++ classes_among (docs_in l.parts) ≡ map class_doc l.out.items ++ classes_among (docs_in (drop l.i l.parts))
