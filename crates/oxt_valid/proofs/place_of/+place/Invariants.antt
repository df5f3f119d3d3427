-- What is left to search decides.
use Rattle.std.proofs.Common.{◌≡◌, map, drop}
use Rattle.oxt_valid.specs.Place.{place_among, place_below}
use Rattle.oxt_grammar.specs.Field.{row_view}
use Rattle.oxt_tree.specs.View.{docs_in}
use Rattle.oxt_valid.proofs.place_of.+place.Given as goal

abbrev pub invariant-place_in_list-loop-i : goal.invariant-place_in_list-loop-i
invariant-place_in_list-loop-i l = place_among (docs_in l.parts) l.number.0 0 ≡ place_among (docs_in (drop l.i l.parts)) l.number.0 l.i

abbrev pub invariant-place_in_fields-loop-i : goal.invariant-place_in_fields-loop-i
invariant-place_in_fields-loop-i l = place_below (docs_in l.parts) l.number.0 (map row_view l.rows) ≡ place_below (docs_in (drop l.i l.parts)) l.number.0 (map row_view (drop l.i l.rows))
