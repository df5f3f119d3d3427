-- What is counted so far, with what the statements left find, is what all find.
use Rattle.std.proofs.Common.{◌≡◌, ◌+◌, drop}
use Rattle.oxt_stores.specs.Insertion.{docs}
use Rattle.oxt_injector.specs.Pending.{pending}
use Rattle.oxt_injector.specs.Placed.{found}
use Rattle.oxt_injector.proofs.injector.StatementInjectorStore.count_found.Given as goal

abbrev pub invariant-loop-statement : goal.invariant-loop-statement
invariant-loop-statement l = l.found + found (pending l.self) (docs (drop l.statement-index l.statements)) ≡ found (pending l.self) (docs l.statements)
