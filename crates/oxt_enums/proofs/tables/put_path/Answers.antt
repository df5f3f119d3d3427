use Rattle.std.proofs.Common.{sym}
use Rattle.oxt_enums.proofs.Firsts.{path_put}
use Rattle.oxt_enums.proofs.tables.put_path.Goals as goal

pub returns : goal.returns
returns c = λ n e t. path_put c.args.place (c.args.scope, c.args.enum_name, c.args.name) n e t c.args.table.now.entries _ (sym c.if-contains_key.ensures) c.in_ok-insert.ensures.updates
