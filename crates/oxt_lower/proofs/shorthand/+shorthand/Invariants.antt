-- The parts are no heavier than they were, and those from the index on are not yet visited.
use Rattle.oxt_tree.specs.Doc.{list}
use Rattle.oxt_tree.specs.View.{docs_in}
use Rattle.oxt_lower.specs.Spare.{IsNoHeavier}
use Rattle.oxt_lower.proofs.shorthand.+shorthand.Given as goal

abbrev pub invariant-open_each-loop-i : goal.invariant-open_each-loop-i
invariant-open_each-loop-i l = record {
  unvisited : goal.unvisited-open_each-loop-i l;
  lighter : IsNoHeavier (list (docs_in l.initial.parts.items)) (list (docs_in l.parts.items));
}
