-- A name that is there is not added.
use Rattle.std.proofs.Common.{sym, ◌∙◌}
use Rattle.oxt_names.proofs.Tables.{added_present}
use Rattle.oxt_names.specs.Tried.{spellings}
use Rattle.oxt_names.proofs.table.add.Goals as goal

pub returns-then-has-clause-names : goal.returns-then-has-clause-names
returns-then-has-clause-names c = sym (added_present c.args.text.now (spellings c.args.table.now.entries) (sym c.has.ensures ∙ c.if-has.true))
