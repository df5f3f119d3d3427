-- The parts from the index on are not yet visited.
use Rattle.oxt_decor.proofs.shorthand.+shorthand.Given as goal

abbrev pub invariant-open_each-loop-i : goal.invariant-open_each-loop-i
invariant-open_each-loop-i l = record {
  unvisited : goal.unvisited-open_each-loop-i l;
}
