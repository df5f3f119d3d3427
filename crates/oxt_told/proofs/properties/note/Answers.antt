-- A name is noted.
use Rattle.oxt_told.proofs.Taking.{noted_by}
use Rattle.oxt_told.proofs.properties.note.Goals as goal

pub returns-in-Some : goal.returns-in-Some
returns-in-Some c = noted_by c.take.result c.args.name c.in-Some.name c.args.names.now c.take.new.self c.in-Some.is c.take.ensures.added
