-- What is left to join makes of what was joined what all makes of what stood before.
use Rattle.std.proofs.Common.{◌≡◌, drop}
use Rattle.oxt_metadata.specs.Sights.{sight_view}
use Rattle.oxt_metadata.specs.Types.{joined_among}
use Rattle.oxt_tree.specs.View.{docs_in}
use Rattle.oxt_metadata.proofs.types.+types.Given as goal

abbrev pub invariant-joined_among-loop-part : goal.invariant-joined_among-loop-part
invariant-joined_among-loop-part l =
    joined_among (sight_view l.sight) (docs_in l.parts) l.join l.initial.joined ≡ joined_among (sight_view l.sight) (docs_in (drop l.part-index l.parts)) l.join l.joined
