-- Only the table of names and the next number have changed.
use Rattle.std.proofs.Common.{◌≡◌}
use Rattle.oxt_lower.specs.Context.{but_table_of}
use Rattle.oxt_lower.proofs.namespace.lower_each.Given as goal

abbrev pub invariant-loop-statement : goal.invariant-loop-statement
invariant-loop-statement l = l.ctx ≡ but_table_of l.initial.ctx l.ctx
