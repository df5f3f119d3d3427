-- One property more.
use Rattle.std.proofs.Common.{arith, map}
use Rattle.oxt_fields.specs.Rules.{rules_view}
use Rattle.oxt_told.proofs.Taking.{free_more}
use Rattle.oxt_told.specs.Classes.{free_names, is_own_name}
use Rattle.oxt_tree.specs.Bound.{bound_views}
use Rattle.oxt_tree.specs.View.{docs_in}
use Rattle.oxt_told.proofs.properties.free_names.Goals as goal

pub loop-property-preserved : goal.loop-property-preserved
loop-property-preserved c =
    free_more (free_names (is_own_name (rules_view c.args.rules) (docs_in c.args.elements.now)) (map (λ p. p.name) (bound_views c.args.properties.now))) c.args.properties.now c.loop-property.property-index c.property-item.result
    c.loop-property.fields.items c.push_free.new.fields.items c.loop-property.taken c.push_free.new.taken (omega arith) c.property-item.is c.in_ok-push_free.ensures.taken c.in_ok-push_free.ensures.fields c.loop-property.invariant
