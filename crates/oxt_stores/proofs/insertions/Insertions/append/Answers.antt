use Rattle.std.proofs.Common.{◌≡◌, false, length, nat_eq, rules}
use Rattle.oxt_stores.proofs.Waiting.{after_appended, sides_appended}
use Rattle.oxt_stores.proofs.insertions.Insertions.append.Goals as goal

pub returns-then-is_empty-clause-added : goal.returns-then-is_empty-clause-added
returns-then-is_empty-clause-added c =
    let none : length c.args.self.now.after.items ≡ 0 = search rules in
    sides_appended c.append_sides.result c.args.self.now c.args.more c.append_sides.new.self none c.append_sides.ensures.before c.append_sides.ensures.after

pub returns-else-is_empty-clause-added : goal.returns-else-is_empty-clause-added
returns-else-is_empty-clause-added c =
    let some : nat_eq (length c.args.self.now.after.items) 0 ≡ false = search rules in
    after_appended c.append_after.result c.args.self.now c.args.more c.append_after.new.self some c.append_after.ensures.before c.append_after.ensures.after
