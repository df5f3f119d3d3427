-- What is left to test decides.
use Rattle.std.proofs.Common.{◌≡◌, drop}
use Rattle.oxt_valid.specs.Plain.{all_plain}
use Rattle.oxt_tree.specs.View.{docs_in}
use Rattle.oxt_valid.proofs.plain.+plain.Given as goal

abbrev pub invariant-all_plain-loop-part : goal.invariant-all_plain-loop-part
invariant-all_plain-loop-part l = all_plain (docs_in l.parts) ≡ all_plain (docs_in (drop l.part-index l.parts))
