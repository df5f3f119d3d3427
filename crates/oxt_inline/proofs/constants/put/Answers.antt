-- The constant comes to its name.
use Rattle.std.proofs.Common.{sym}
use Rattle.oxt_inline.proofs.Entries.{name_comes}
use Rattle.oxt_inline.proofs.constants.put.Goals as goal

pub returns : goal.returns
returns c = name_comes (c.args.member.symbol.0, c.args.member.name) c.args.member.value c.args.table.now c.insert.new.self (sym c.if-contains_key.ensures) c.in_ok-insert.ensures.updates
