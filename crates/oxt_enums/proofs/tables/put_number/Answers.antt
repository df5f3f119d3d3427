use Rattle.std.proofs.Common.{sym}
use Rattle.oxt_enums.proofs.Firsts.{number_put}
use Rattle.oxt_enums.proofs.tables.put_number.Goals as goal

pub returns : goal.returns
returns c = λ q. number_put c.args.place c.args.number q c.args.table.now.entries _ (sym c.if-contains_key.ensures) c.in_ok-insert.ensures.updates
