-- Only the table of names and the next number have changed, and no symbol was made.
use Rattle.std.proofs.Common.{◌≡◌, length}
use Rattle.oxt_lower.specs.Context.{but_table_of}
use Rattle.oxt_lower.proofs.namespace_export.puts_of.Given as goal

abbrev pub invariant-loop-name : goal.invariant-loop-name
invariant-loop-name l =
    (goal.iterator-loop-name).can_next l.name-iterator
    × (goal.iterator-loop-name).is_finite l.name-iterator
    × (l.ctx ≡ but_table_of l.initial.ctx l.ctx)
    × (length l.ctx.scoping.symbols ≡ length l.initial.ctx.scoping.symbols)
