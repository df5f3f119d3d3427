-- What is left to test decides.
use Rattle.std.proofs.Common.{◌≡◌, map, drop}
use Rattle.oxt_grammar.specs.Field.{row_view}
use Rattle.oxt_valid.specs.Plain.{fields_plain}
use Rattle.oxt_tree.specs.View.{docs_in}
use Rattle.oxt_valid.proofs.plain.fields_plain.Given as goal

abbrev pub invariant-loop-i : goal.invariant-loop-i
invariant-loop-i l = fields_plain (map row_view l.rows) (docs_in l.parts) ≡ fields_plain (map row_view (drop l.i l.rows)) (docs_in (drop l.i l.parts))
