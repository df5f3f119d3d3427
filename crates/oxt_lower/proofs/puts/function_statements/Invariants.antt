-- Only the table of names and the next number have changed, and no symbol was made.
use Rattle.std.proofs.Common.{◌≡◌, length}
use Rattle.oxt_lower.specs.Context.{but_table_of}
use Rattle.oxt_lower.proofs.puts.function_statements.Given as goal

abbrev pub invariant-loop-member : goal.invariant-loop-member
invariant-loop-member l =
    (goal.iterator-loop-member).can_next l.member-iterator
    × (goal.iterator-loop-member).is_finite l.member-iterator
    × (l.ctx ≡ but_table_of l.initial.ctx l.ctx)
    × (length l.ctx.scoping.symbols ≡ length l.initial.ctx.scoping.symbols)
