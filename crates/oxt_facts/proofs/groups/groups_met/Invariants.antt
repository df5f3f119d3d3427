-- What the items so far declare was met, and what the others declare comes behind it.
use Rattle.std.proofs.Common.{◌≡◌, [], drop}
use Rattle.oxt_facts.specs.Entry.{entries}
use Rattle.oxt_facts.specs.Groups.{groups_met}
use Rattle.oxt_facts.proofs.groups.groups_met.Given as goal

abbrev pub invariant-loop-item : goal.invariant-loop-item
invariant-loop-item l = groups_met [] (entries l.items) ≡ groups_met l.met (entries (drop l.item-index l.items))
