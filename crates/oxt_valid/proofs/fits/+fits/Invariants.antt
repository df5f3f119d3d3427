-- What is left to test decides.
use Rattle.std.proofs.Common.{◌≡◌, map, drop}
use Rattle.oxt_grammar.specs.Field.{row_view}
use Rattle.oxt_valid.specs.Valid.{fields_fit, all_fit}
use Rattle.oxt_tree.specs.View.{docs_in}
use Rattle.oxt_valid.proofs.fits.+fits.Given as goal

abbrev pub invariant-all_fit-loop-part : goal.invariant-all_fit-loop-part
invariant-all_fit-loop-part l = all_fit (docs_in l.parts) l.setting l.holds ≡ all_fit (docs_in (drop l.part-index l.parts)) l.setting l.holds

abbrev pub invariant-fields_fit-loop-i : goal.invariant-fields_fit-loop-i
invariant-fields_fit-loop-i l = fields_fit (docs_in l.parts) l.setting l.inner (map row_view l.rows) ≡ fields_fit (docs_in (drop l.i l.parts)) l.setting l.inner (map row_view (drop l.i l.rows))
