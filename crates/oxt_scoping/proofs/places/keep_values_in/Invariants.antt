-- The scopes before the index bind values alone, and the others are as they were.
use Rattle.std.proofs.Common.{◌≡◌}
use Rattle.oxt_scoping.proofs.Changes.{changed_front}
use Rattle.oxt_scoping.specs.Entries.{keeping}
use Rattle.oxt_scoping.specs.Scoped.{stays}
use Rattle.oxt_scoping.proofs.places.keep_values_in.Given as goal

abbrev pub invariant-loop-i : goal.invariant-loop-i
invariant-loop-i l = l.scopes.items ≡ changed_front (keeping (stays l.symbols)) l.i l.initial.scopes.items
