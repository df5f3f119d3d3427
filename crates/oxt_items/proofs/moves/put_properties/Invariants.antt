-- What is put so far, with what is left, is the whole.
use Rattle.std.proofs.Common.{◌≡◌, ◌++◌, drop}
use Rattle.oxt_facts.specs.Entry.{entries}
use Rattle.oxt_facts.specs.Told.{names_view}
use Rattle.oxt_items.specs.Classes.{property_puts}
use Rattle.oxt_items.proofs.moves.put_properties.Given as goal

abbrev pub invariant-loop-property : goal.invariant-loop-property
invariant-loop-property l = entries l.initial.out.items ++ property_puts (names_view l.properties) ≡ entries l.out.items ++ property_puts (names_view (drop l.property-index l.properties))
