-- The rest has the scope that is looked for, and it becomes shorter.
use Rattle.std.proofs.Common.{◌≡◌, length}
use Rattle.std.specs.Prelude.{reverse}
use Rattle.oxt_ctx.specs.Context.{innermost_scope}
use Rattle.oxt_ctx.proofs.context.innermost_scope.Given as goal

abbrev pub invariant-loop-last : goal.invariant-loop-last
invariant-loop-last l = innermost_scope (reverse l.around) ≡ innermost_scope (reverse l.rest)

abbrev pub decreases-loop-last : goal.decreases-loop-last
decreases-loop-last l = length l.rest
