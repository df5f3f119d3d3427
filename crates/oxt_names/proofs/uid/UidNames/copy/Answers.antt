-- The copy has the same names.
use Rattle.std.proofs.Common.{◌∙◌}
use Rattle.oxt_names.proofs.Copies.{copied_names, copied_tried}
use Rattle.oxt_names.proofs.uid.UidNames.copy.Goals as goal

pub invariant_of-result : goal.invariant_of-result
invariant_of-result c = copied_tried _ _ c.in_ok-clone.ensures.cases c.self.invariant

pub returns : goal.returns
returns c = copied_names _ _ c.in_ok-clone.ensures.cases ∙ c.self.view_is
