-- Those so far stand in front of those of what is left.
use Rattle.std.proofs.Common.{◌≡◌, ◌++◌, drop}
use Rattle.oxt_check.specs.Occurring.{blocks_among}
use Rattle.oxt_check.proofs.survey.blocks_among.Given as goal

abbrev pub invariant-loop-form : goal.invariant-loop-form
invariant-loop-form l = blocks_among l.forms ≡ l.blocks.items ++ blocks_among (drop l.form-index l.forms)
