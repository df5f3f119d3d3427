-- What the table has for a name was tried behind it.
use Rattle.std.proofs.Common.{◌∙◌}
use Rattle.oxt_names.proofs.Tables.{next_of}
use Rattle.oxt_names.proofs.table.next_number.Goals as goal

pub returns : goal.returns
returns c = next_of c.args.table.now.entries c.args.base.now c.copied.result (c.copied.ensures ∙ c.get.ensures.value) c.requires
