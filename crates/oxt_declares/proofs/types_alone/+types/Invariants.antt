-- What is left decides for the whole list.
use Rattle.std.proofs.Common.{◌≡◌, drop}
use Rattle.oxt_tree.specs.View.{docs_in}
use Rattle.oxt_declares.specs.TypesAlone.{all_of_types}
use Rattle.oxt_declares.proofs.types_alone.+types.Given as goal

abbrev pub invariant-all_of_types-loop-part : goal.invariant-all_of_types-loop-part
invariant-all_of_types-loop-part l = all_of_types (docs_in l.parts) ≡ all_of_types (docs_in (drop l.part-index l.parts))
