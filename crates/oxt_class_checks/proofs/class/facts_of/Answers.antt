use Rattle.oxt_class_checks.proofs.Facts.{same_facts}
use Rattle.oxt_class_checks.proofs.class.facts_of.Goals as goal

pub returns : goal.returns
returns c = same_facts _ _ _ _ _ _ _ _ _ c.is_any_moving.ensures c.is_any_decorated.ensures c.is_any_assigned.ensures
