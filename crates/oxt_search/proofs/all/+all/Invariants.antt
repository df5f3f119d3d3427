-- What was given so far stands in front of what is left.
use Rattle.std.proofs.Common.{◌≡◌, ◌++◌, map, drop}
use Rattle.oxt_search.specs.All.{all_among, all_below}
use Rattle.oxt_grammar.specs.Field.{row_view}
use Rattle.oxt_tree.specs.View.{docs_in}
use Rattle.oxt_search.proofs.all.+all.Given as goal

abbrev pub invariant-push_among-loop-i : goal.invariant-push_among-loop-i
invariant-push_among-loop-i g l = map g.S.Search.view l.initial.out.items ++ all_among (g.S.Search.sought l.search) (docs_in l.parts) l.state ≡ map g.S.Search.view l.out.items ++ all_among (g.S.Search.sought l.search) (docs_in (drop l.i l.parts)) l.state

abbrev pub invariant-push_below-loop-i : goal.invariant-push_below-loop-i
invariant-push_below-loop-i g l = map g.S.Search.view l.initial.out.items ++ all_below (g.S.Search.sought l.search) (docs_in l.parts) l.kind (map row_view l.rows) l.state ≡ map g.S.Search.view l.out.items ++ all_below (g.S.Search.sought l.search) (docs_in (drop l.i l.parts)) l.kind (map row_view (drop l.i l.rows)) l.state
