use Rattle.std.proofs.Common.{◌∙◌, ℕ, List, ap}
use Rattle.oxt_class_checks.specs.Misplaced.{misplaced_beside}
use Rattle.oxt_fields.specs.Rules.{rules_view}
use Rattle.oxt_tree.specs.View.{node_doc}
use Rattle.oxt_class_checks.proofs.misplaced.first_misplaced_element.Goals as goal

pub returns : goal.returns
returns c = c.first_beside.ensures ∙ ap (λ (ns : List ℕ). misplaced_beside ns (rules_view c.args.rules) (node_doc c.args.program.now)) c.in_ok-refused.ensures
