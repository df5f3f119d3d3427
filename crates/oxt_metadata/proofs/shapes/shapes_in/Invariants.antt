-- What was noted, with the events that are left, says what all of them say.
use Rattle.std.proofs.Common.{drop}
use Rattle.oxt_metadata.proofs.Turns.{IsNoted}
use Rattle.oxt_metadata.proofs.shapes.shapes_in.Given as goal

abbrev pub invariant-loop-event : goal.invariant-loop-event
invariant-loop-event l = IsNoted l.events l.latest.entries l.shapes.entries (drop l.event-index l.events)
