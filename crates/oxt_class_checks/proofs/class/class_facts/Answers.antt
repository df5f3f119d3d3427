use Rattle.oxt_class_checks.proofs.Facts.{facts_of_class}
use Rattle.oxt_fields.specs.Rules.{rules_view}
use Rattle.oxt_class_checks.proofs.class.class_facts.Goals as goal

pub returns : goal.returns
returns c = facts_of_class (rules_view c.args.rules) c.args.class.now _ _ _ _ _ c.facts_of.ensures c.is-is_declaration.ensures c.is_derived.ensures c.hoists_private.ensures c.elements_of-elements.ensures
