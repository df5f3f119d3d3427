-- What is left to test decides.
use Rattle.std.proofs.Common.{◌≡◌, map, drop}
use Rattle.oxt_grammar.specs.Field.{row_view}
use Rattle.oxt_tree.specs.View.{docs_in}
use Rattle.oxt_valid.specs.Misfit.{misfit_in_each, misfit_in_fields}
use Rattle.oxt_valid.proofs.misfit.+misfit.Given as goal

abbrev pub invariant-misfit_in_each-loop-index : goal.invariant-misfit_in_each-loop-index
invariant-misfit_in_each-loop-index l = misfit_in_each (docs_in l.parts) l.setting 0 l.holds ≡ misfit_in_each (docs_in (drop l.index l.parts)) l.setting l.index l.holds

abbrev pub invariant-misfit_in_fields-loop-i : goal.invariant-misfit_in_fields-loop-i
invariant-misfit_in_fields-loop-i l = misfit_in_fields (docs_in l.parts) l.setting l.inner (map row_view l.rows) ≡ misfit_in_fields (docs_in (drop l.i l.parts)) l.setting l.inner (map row_view (drop l.i l.rows))
