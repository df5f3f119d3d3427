-- The name of a member that is not repeated is kept with the others.
use Rattle.std.proofs.Common.{◌∙◌, arith, sym}
use Rattle.oxt_enum_checks.proofs.Namesakes.{noted_next}
use Rattle.oxt_enum_checks.proofs.repeated.first_repeated.Goals as goal

pub loop-member-preserved : goal.loop-member-preserved
loop-member-preserved c =
    noted_next c.args.members.now c.loop-member.member-index c.member-item.result c.loop-member.names.keys c.note.new.names.keys (omega arith) c.member-item.is (sym c.if-is_repeated.false ∙ c.is_repeated.ensures) c.in_ok-note.ensures c.loop-member.invariant
