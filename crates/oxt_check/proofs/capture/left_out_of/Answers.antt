-- Where no such declaration occurs, none is left out.
use Rattle.std.proofs.Common.{◌∙◌, sym}
use Rattle.oxt_check.proofs.Absences.{no_left_out}
use Rattle.oxt_options.specs.Facts.{is_in}
use Rattle.oxt_tree.specs.View.{node_doc}
use Rattle.oxt_check.proofs.capture.left_out_of.Goals as goal

pub returns-else-has : goal.returns-else-has
returns-else-has c = c.new.ensures ∙ no_left_out (is_in c.args.kept.now) (node_doc c.args.survey.now.program.now) (sym c.has.ensures ∙ c.if-has.false)
