-- The table finds a name where it is among the names.
use Rattle.std.proofs.Common.{◌∙◌}
use Rattle.oxt_names.proofs.Tables.{found}
use Rattle.oxt_names.proofs.table.has.Goals as goal

pub returns : goal.returns
returns c = c.contains_key.ensures ∙ found c.args.table.now.entries c.args.text.now
