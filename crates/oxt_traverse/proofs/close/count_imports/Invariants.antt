-- The statements before the index are imports.
use Rattle.std.proofs.Common.{◌≡◌, ◌+◌, drop}
use Rattle.oxt_stores.specs.Insertion.{docs}
use Rattle.oxt_traverse.specs.Closed.{imports}
use Rattle.oxt_traverse.proofs.close.count_imports.Given as goal

abbrev pub invariant-loop-i : goal.invariant-loop-i
invariant-loop-i l = l.i + imports (docs (drop l.i l.statements)) ≡ imports (docs l.statements)
