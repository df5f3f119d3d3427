-- None of the parts so far is a text by its form.
use Rattle.std.proofs.Common.{◌≡◌, drop}
use Rattle.oxt_constant.specs.Reversed.{some_text_form}
use Rattle.oxt_tree.specs.View.{docs_in}
use Rattle.oxt_constant.proofs.reversed.+form.Given as goal

abbrev pub invariant-some_text_form-loop-part : goal.invariant-some_text_form-loop-part
invariant-some_text_form-loop-part l = some_text_form (docs_in l.parts) ≡ some_text_form (docs_in (drop l.part-index l.parts))
