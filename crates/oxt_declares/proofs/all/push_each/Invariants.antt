-- What was given so far stands in front of what is left.
use Rattle.std.proofs.Common.{◌≡◌, ◌++◌, map, drop}
use Rattle.oxt_declares.proofs.Finds.{site_doc}
use Rattle.oxt_declares.specs.Sites.{all_each}
use Rattle.oxt_declares.proofs.all.push_each.Given as goal

abbrev pub invariant-loop-i : goal.invariant-loop-i
invariant-loop-i g l = map g.S.Search.view l.initial.out.items ++ all_each (g.S.Search.sought l.search) (map site_doc l.nodes) l.state ≡ map g.S.Search.view l.out.items ++ all_each (g.S.Search.sought l.search) (map site_doc (drop l.i l.nodes)) l.state
