-- Asked are the symbols so far.
use Rattle.std.proofs.Common.{◌≡◌, take}
use Rattle.oxt_modules.specs.Marked.{beside}
use Rattle.oxt_modules.specs.Symbols.{all_asked}
use Rattle.oxt_modules.proofs.symbols.all_asked.Given as goal

abbrev pub invariant-loop-i : goal.invariant-loop-i
invariant-loop-i l = l.out.items ≡ take l.i (all_asked (beside l.marked l.scoping))
