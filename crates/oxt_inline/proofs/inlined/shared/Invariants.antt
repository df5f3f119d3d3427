-- The constants so far stand in front of the others.
use Rattle.std.proofs.Common.{◌≡◌, ◌++◌, map, drop}
use Rattle.oxt_inline.specs.Inlined.{inlined_view}
use Rattle.oxt_options.specs.Lists.{constants_in}
use Rattle.oxt_inline.proofs.inlined.shared.Given as goal

abbrev pub invariant-loop-inlined : goal.invariant-loop-inlined
invariant-loop-inlined l = map inlined_view l.found ≡ constants_in l.constants.items ++ map inlined_view (drop l.inlined-index l.found)
