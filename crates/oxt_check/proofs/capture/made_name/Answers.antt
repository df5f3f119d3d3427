-- Without decorators that are lowered, no free name is made where no such form occurs.
use Rattle.std.proofs.Common.{◌∙◌, sym}
use Rattle.oxt_check.proofs.Absences.{no_free}
use Rattle.oxt_fields.specs.Rules.{rules_view}
use Rattle.oxt_options.specs.Facts.{is_in}
use Rattle.oxt_tree.specs.View.{node_doc}
use Rattle.oxt_check.proofs.capture.made_name.Goals as goal

pub returns-else-is_made : goal.returns-else-is_made
returns-else-is_made c =
    no_free (rules_view c.args.rules) c.args.scoping.now (is_in c.args.kept.now) (node_doc c.args.survey.now.program.now) (sym c.is_made.ensures ∙ c.if-is_made.false)
