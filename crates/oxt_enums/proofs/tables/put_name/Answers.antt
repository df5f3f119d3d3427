use Rattle.std.proofs.Common.{sym}
use Rattle.oxt_enums.proofs.Firsts.{name_comes}
use Rattle.oxt_enums.proofs.tables.put_name.Goals as goal

pub returns : goal.returns
returns c = λ n t. name_comes c.args.place (c.args.body, c.args.name) n t c.args.table.now.entries _ (sym c.if-contains_key.ensures) c.in_ok-insert.ensures.updates
