-- One event is noted after the other.
use Rattle.oxt_metadata.proofs.Turns.{one_event}
use Rattle.oxt_metadata.proofs.shapes.shapes_in.Goals as goal

pub loop-event-preserved : goal.loop-event-preserved
loop-event-preserved c =
    one_event c.args.events.now c.args.events.now c.loop-event.event-index _ c.loop-event.latest.entries c.loop-event.shapes.entries c.note.new.latest.entries c.note.new.shapes.entries
    c.loop-event-test.true c.in_ok-note.ensures.blocks c.in_ok-note.ensures.names c.loop-event.invariant
