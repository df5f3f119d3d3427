-- The items so far are numbered, and those that are left are as they were.
use Rattle.std.proofs.Common.{◌≡◌, []}
use Rattle.oxt_facts.proofs.Numbers.{so_far}
use Rattle.oxt_facts.specs.Entry.{entries}
use Rattle.oxt_facts.specs.Tags.{numbered}
use Rattle.oxt_facts.proofs.tags.number_tags.Given as goal

abbrev pub invariant-loop-i : goal.invariant-loop-i
invariant-loop-i l = numbered [] (entries l.initial.items.items) ≡ so_far l.i l.items.items l.met
