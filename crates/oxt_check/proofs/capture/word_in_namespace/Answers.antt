-- Where no block of a namespace occurs, no word does in one.
use Rattle.std.proofs.Common.{◌∙◌, sym}
use Rattle.oxt_check.proofs.Absences.{no_namespace}
use Rattle.oxt_tree.specs.View.{node_doc}
use Rattle.oxt_check.proofs.capture.word_in_namespace.Goals as goal

pub returns-else-has : goal.returns-else-has
returns-else-has c = no_namespace c.args.legacy (node_doc c.args.survey.now.program.now) (sym c.has.ensures ∙ c.if-has.false)
