-- The first symbols have been looked at.
use Rattle.std.proofs.Common.{◌-◌, length}
use Rattle.oxt_enum_checks.specs.Places.{places_in}
use Rattle.oxt_enum_checks.proofs.Symbols.{IsFound}
use Rattle.oxt_enum_checks.proofs.sought.first_names.Given as goal

abbrev pub decreases-loop-sought : goal.decreases-loop-sought
decreases-loop-sought l = length l.scoping.symbols - length l.found.items

abbrev pub invariant-loop-sought : goal.invariant-loop-sought
invariant-loop-sought l = IsFound (places_in l.places) l.sought l.scoping.symbols l.found.items
