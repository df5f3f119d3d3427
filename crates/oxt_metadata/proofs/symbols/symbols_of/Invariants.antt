-- The symbols so far stand in front of those that the annotations that are left name.
use Rattle.std.proofs.Common.{◌≡◌, ◌++◌, drop}
use Rattle.oxt_metadata.specs.Symbols.{named_in, numbers_in}
use Rattle.oxt_metadata.proofs.symbols.symbols_of.Given as goal

abbrev pub invariant-loop-annotation : goal.invariant-loop-annotation
invariant-loop-annotation l =
    named_in l.scoping l.annotations ≡ numbers_in l.symbols.items ++ named_in l.scoping (drop l.annotation-index l.annotations)
