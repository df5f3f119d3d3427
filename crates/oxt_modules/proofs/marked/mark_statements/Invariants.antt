-- Marked is what the statements from behind mark so far.
use Rattle.std.proofs.Common.{◌≡◌, ◌-◌, length, drop}
use Rattle.oxt_modules.specs.Marked.{IsPassed, marked_in}
use Rattle.oxt_tree.specs.View.{docs_in}
use Rattle.oxt_modules.proofs.marked.mark_statements.Given as goal

abbrev pub invariant-loop-behind : goal.invariant-loop-behind
invariant-loop-behind l =
    (l.marked ≡ marked_in l.scoping (docs_in (drop (length l.statements - l.behind) l.statements)))
    × IsPassed l.scoping l.marked l.passed.entries
