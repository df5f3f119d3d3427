use Rattle.std.proofs.Common.{arith}
use Rattle.oxt_enums.proofs.Evaluations.{known_end, known_next}
use Rattle.oxt_enums.proofs.constants.evaluate.Goals as goal

pub loop-member-preserved : goal.loop-member-preserved
loop-member-preserved c = record {
  known = known_next c.args.owners.now c.args.homes.now c.args.members.now c.loop-member.known c.add.new.self c.loop-member.member-index c.member-item.result (omega arith) c.member-item.is c.loop-member.invariant.known c.in_ok-add.ensures.told;
  counted = c.in_ok-add.ensures.counted c.loop-member.invariant.counted;
  within = c.in_ok-add.ensures.within;
}

pub returns-clause-told : goal.returns-clause-told
returns-clause-told c = known_end c.args.owners.now c.args.homes.now c.args.members.now c.loop-member.known c.loop-member.member-index (omega arith) c.loop-member.invariant.known
