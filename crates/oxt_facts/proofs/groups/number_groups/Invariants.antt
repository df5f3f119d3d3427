-- The items so far have their numbers, and those of the others are still to come.
use Rattle.std.proofs.Common.{◌≡◌}
use Rattle.oxt_facts.specs.Entry.{entries}
use Rattle.oxt_facts.specs.Groups.{numbered_groups}
use Rattle.oxt_facts.proofs.Declared.{so_far}
use Rattle.oxt_facts.proofs.groups.number_groups.Given as goal

abbrev pub invariant-loop-i : goal.invariant-loop-i
invariant-loop-i l = numbered_groups (entries l.initial.items.items) ≡ so_far l.met l.i l.items.items
