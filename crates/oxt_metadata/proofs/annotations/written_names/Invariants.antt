-- The names so far stand in front of those of the annotations that are left.
use Rattle.std.proofs.Common.{◌≡◌, ◌++◌, drop}
use Rattle.oxt_metadata.specs.Symbols.{written_in}
use Rattle.oxt_options.specs.Lists.{pairs_in}
use Rattle.oxt_metadata.proofs.annotations.written_names.Given as goal

abbrev pub invariant-loop-annotation : goal.invariant-loop-annotation
invariant-loop-annotation l = written_in l.annotations ≡ pairs_in l.names.items ++ written_in (drop l.annotation-index l.annotations)
