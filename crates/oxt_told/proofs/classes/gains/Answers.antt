use Rattle.oxt_fields.specs.Classes.{elements_of}
use Rattle.oxt_fields.specs.Rules.{rules_view}
use Rattle.oxt_told.proofs.Callers.{gaining_by}
use Rattle.oxt_tree.specs.View.{docs_in, node_doc}
use Rattle.oxt_told.proofs.classes.gains.Goals as goal

pub returns : goal.returns
returns c = gaining_by (rules_view c.args.rules) (docs_in c.elements_of.result.now) (elements_of (node_doc c.args.class.now)) c.is_gaining.result c.elements_of.ensures c.is_gaining.ensures
