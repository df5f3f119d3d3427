-- Where no class occurs, nothing is wrong with one.
use Rattle.std.proofs.Common.{◌∙◌, sym}
use Rattle.oxt_check.proofs.Absences.{no_element}
use Rattle.oxt_fields.specs.Rules.{rules_view}
use Rattle.oxt_tree.specs.View.{node_doc}
use Rattle.oxt_check.proofs.misplacement.class_misplacement.Goals as goal

pub returns-else-has_class : goal.returns-else-has_class
returns-else-has_class c = no_element (rules_view c.args.rules) (node_doc c.args.survey.now.program.now) (sym c.has_class.ensures ∙ c.if-has_class.false)
