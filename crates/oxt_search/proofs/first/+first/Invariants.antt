-- What is left to search decides.
use Rattle.std.proofs.Common.{◌≡◌, map, drop}
use Rattle.oxt_search.specs.All.{all_among, all_below}
use Rattle.oxt_search.specs.First.{first}
use Rattle.oxt_grammar.specs.Field.{row_view}
use Rattle.oxt_tree.specs.View.{docs_in}
use Rattle.oxt_search.proofs.first.+first.Given as goal

abbrev pub invariant-first_among-loop-i : goal.invariant-first_among-loop-i
invariant-first_among-loop-i g l = first (all_among (g.S.Search.sought l.search) (docs_in l.parts) l.state) ≡ first (all_among (g.S.Search.sought l.search) (docs_in (drop l.i l.parts)) l.state)

abbrev pub invariant-first_below-loop-i : goal.invariant-first_below-loop-i
invariant-first_below-loop-i g l = first (all_below (g.S.Search.sought l.search) (docs_in l.parts) l.kind (map row_view l.rows) l.state) ≡ first (all_below (g.S.Search.sought l.search) (docs_in (drop l.i l.parts)) l.kind (map row_view (drop l.i l.rows)) l.state)
