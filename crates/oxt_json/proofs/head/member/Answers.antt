-- The members are looked at from the last to the first.
use Rattle.std.proofs.Common.{◌≡◌, true, false, bytes_eq, arith}
use Rattle.oxt_json.proofs.Found.{member_here, member_before}
use Rattle.oxt_json.proofs.head.member.Goals as goal

pub returns-then-is_key-clause-value : goal.returns-then-is_key-clause-value
returns-then-is_key-clause-value c =
    let m = c.index-members-left.result in
    let same : bytes_eq m.0.now c.args.key.now ≡ true = grind arith in
    member_here c.args.members.now c.loop-left.left m c.args.key.now (omega arith) c.loop-left.invariant.within c.index-members-left.is same c.loop-left.invariant.found

pub loop-left-preserved : goal.loop-left-preserved
loop-left-preserved c =
    let m = c.index-members-left.result in
    let other : bytes_eq m.0.now c.args.key.now ≡ false = grind arith in
    record {
      found = member_before c.args.members.now c.loop-left.left m c.args.key.now (omega arith) c.loop-left.invariant.within c.index-members-left.is other c.loop-left.invariant.found;
      within = omega (arith, c.loop-left.invariant.within);
    }
