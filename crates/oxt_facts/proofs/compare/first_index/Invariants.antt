use Rattle.std.proofs.Common.{◌≡◌, take}
use Rattle.oxt_facts.specs.Entry.{entries}
use Rattle.oxt_facts.proofs.compare.first_index.Given as goal

abbrev pub invariant-loop-i : goal.invariant-loop-i
invariant-loop-i l = take l.i (entries l.a) ≡ take l.i (entries l.b)
