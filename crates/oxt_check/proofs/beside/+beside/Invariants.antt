-- What is left to search decides.
use Rattle.std.proofs.Common.{◌≡◌, map, drop}
use Rattle.oxt_grammar.specs.Field.{row_view}
use Rattle.oxt_check.specs.Beside.{beside_in_each, beside_in_fields}
use Rattle.oxt_check.specs.Targets.{is_listed}
use Rattle.oxt_tree.specs.View.{docs_in}
use Rattle.oxt_check.proofs.beside.+beside.Given as goal

abbrev pub invariant-first_in_each-loop-index : goal.invariant-first_in_each-loop-index
invariant-first_in_each-loop-index l = beside_in_each (docs_in l.parts) l.holds (is_listed l.targets) 0 ≡ beside_in_each (docs_in (drop l.index l.parts)) l.holds (is_listed l.targets) l.index

abbrev pub invariant-first_in_fields-loop-i : goal.invariant-first_in_fields-loop-i
invariant-first_in_fields-loop-i l = beside_in_fields (docs_in l.parts) (is_listed l.targets) (map row_view l.rows) ≡ beside_in_fields (docs_in (drop l.i l.parts)) (is_listed l.targets) (map row_view (drop l.i l.rows))
