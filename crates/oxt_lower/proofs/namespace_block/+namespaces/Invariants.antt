-- The table of names has only grown, and the statements from the index on are not yet visited.
use Rattle.std.proofs.Common.{◌≡◌, ◌≤◌, length}
use Rattle.oxt_lower.specs.Context.{but_table_of}
use Rattle.oxt_lower.proofs.namespace_block.+namespaces.Given as goal

abbrev pub invariant-lower_statements-loop-i : goal.invariant-lower_statements-loop-i
invariant-lower_statements-loop-i l = record {
  unvisited : goal.unvisited-lower_statements-loop-i l;
  frame : l.ctx ≡ but_table_of l.initial.ctx l.ctx;
  more : length l.initial.ctx.scoping.symbols ≤ length l.ctx.scoping.symbols;
}
