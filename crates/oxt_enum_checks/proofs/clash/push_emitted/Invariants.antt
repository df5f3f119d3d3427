-- The declarations so far stand in front of those that are left.
use Rattle.std.proofs.Common.{◌≡◌, ◌++◌, drop}
use Rattle.oxt_enum_checks.specs.Clash.{emitted}
use Rattle.oxt_enum_checks.specs.Places.{places_in}
use Rattle.oxt_enum_checks.proofs.clash.push_emitted.Given as goal

abbrev pub invariant-loop-declaration : goal.invariant-loop-declaration
invariant-loop-declaration l = l.initial.out.items ++ emitted (places_in l.places) l.declarations ≡ l.out.items ++ emitted (places_in l.places) (drop l.declaration-index l.declarations)
