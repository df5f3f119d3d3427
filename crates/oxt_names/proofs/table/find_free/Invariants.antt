-- The numbers before this one give texts that are taken.
use Rattle.std.proofs.Common.{ℕ, ◌≡◌, ◌≤◌, ◌<◌, ◌++◌, true}
use Rattle.std.specs.Fmt.{decimal}
use Rattle.oxt_names.specs.Made.{is_among}
use Rattle.oxt_names.specs.Tried.{spellings}
use Rattle.oxt_names.proofs.table.find_free.Given as goal

abbrev pub invariant-loop-number : goal.invariant-loop-number
invariant-loop-number l = (k : ℕ) → l.from ≤ k → k < l.number → is_among (l.base ++ decimal k) (spellings l.table.entries) ≡ true
