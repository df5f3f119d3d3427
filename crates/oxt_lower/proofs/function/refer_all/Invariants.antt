-- No symbol and no scope was made.
use Rattle.std.proofs.Common.{◌≡◌, length}
use Rattle.oxt_lower.proofs.function.refer_all.Given as goal

abbrev pub invariant-loop-node : goal.invariant-loop-node
invariant-loop-node l = record {
  symbols : length l.scoping.symbols ≡ length l.initial.scoping.symbols;
  scopes : length l.scoping.scopes ≡ length l.initial.scoping.scopes;
}
