-- The types so far stand in front of those of the annotations that are left.
use Rattle.std.proofs.Common.{◌≡◌, ◌++◌, drop}
use Rattle.oxt_metadata.specs.Symbols.{types_in as types_of}
use Rattle.oxt_options.specs.Lists.{types_in}
use Rattle.oxt_metadata.proofs.annotations.types_of.Given as goal

abbrev pub invariant-loop-annotation : goal.invariant-loop-annotation
invariant-loop-annotation l = types_of l.annotations ≡ types_in l.types.items ++ types_of (drop l.annotation-index l.annotations)
