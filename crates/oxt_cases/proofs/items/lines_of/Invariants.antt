use Rattle.std.proofs.Common.{◌≡◌, ◌++◌}
use Rattle.oxt_cases.proofs.Shows.{lines_from}
use Rattle.oxt_cases.proofs.items.lines_of.Given as goal

abbrev pub invariant-loop-item : goal.invariant-loop-item
invariant-loop-item l = lines_from 0 l.items ≡ l.bytes.items ++ lines_from l.item-index l.items
