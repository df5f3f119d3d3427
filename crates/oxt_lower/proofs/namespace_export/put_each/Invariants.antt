-- Only the table of names and the next number have changed, and no symbol was made.
use Rattle.std.proofs.Common.{◌≡◌, length}
use Rattle.oxt_lower.specs.Context.{but_table_of}
use Rattle.oxt_lower.proofs.namespace_export.put_each.Given as goal

abbrev pub invariant-loop-declarator : goal.invariant-loop-declarator
invariant-loop-declarator l = record {
  frame : l.ctx ≡ but_table_of l.initial.ctx l.ctx;
  symbols : length l.ctx.scoping.symbols ≡ length l.initial.ctx.scoping.symbols;
}
