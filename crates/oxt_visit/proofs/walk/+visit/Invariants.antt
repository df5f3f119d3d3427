-- What is read is as it was, the parts from the place on weigh no more than all did, and they are left to walk.
use Rattle.std.proofs.Common.{◌≡◌, ◌≤◌, ◌+◌, ◌*◌, length}
use Rattle.oxt_tree.specs.View.{docs_in, node_doc, part_doc}
use Rattle.oxt_visit.proofs.Going.{ElementsGo, FieldsGo}
use Rattle.oxt_visit.proofs.Rests.{rest_weighs}
use Rattle.oxt_visit.specs.Reading.{readings}
use Rattle.oxt_visit.specs.Walks.{Keeps}
use Rattle.oxt_visit.specs.Weight.{weight, weights}
use Rattle.oxt_visit.proofs.walk.+visit.Given as goal

abbrev pub invariant-visit_fields-loop-i : goal.invariant-visit_fields-loop-i
invariant-visit_fields-loop-i g l = record {
  kept : readings g.V.Walker.read (docs_in l.parts.items) ≡ readings g.V.Walker.read (docs_in l.initial.parts.items);
  steady : g.V.Walker.spare l.visitor ≡ g.V.Walker.spare l.initial.visitor;
  len : length l.parts.items ≡ length l.initial.parts.items;
  left : rest_weighs (g.V.Walker.spare l.initial.visitor) l.parts.items l.i ≤ weights (g.V.Walker.spare l.initial.visitor) (docs_in l.initial.parts.items);
  called : FieldsGo g.V.Walker.trace g.V.Walker.hooks (Keeps g.V.Walker.read) (g.V.Walker.log l.initial.visitor) (g.V.Walker.log l.visitor) l.rows (docs_in l.initial.parts.items) l.i l.parts.items;
}

abbrev pub invariant-visit_elements-loop-i : goal.invariant-visit_elements-loop-i
invariant-visit_elements-loop-i g l = record {
  kept : readings g.V.Walker.read (docs_in l.parts.items) ≡ readings g.V.Walker.read (docs_in l.initial.parts.items);
  steady : g.V.Walker.spare l.visitor ≡ g.V.Walker.spare l.initial.visitor;
  len : length l.parts.items ≡ length l.initial.parts.items;
  left : rest_weighs (g.V.Walker.spare l.initial.visitor) l.parts.items l.i ≤ weights (g.V.Walker.spare l.initial.visitor) (docs_in l.initial.parts.items);
  called : ElementsGo g.V.Walker.trace g.V.Walker.hooks (Keeps g.V.Walker.read) (g.V.Walker.log l.initial.visitor) (g.V.Walker.log l.visitor) l.place (docs_in l.initial.parts.items) l.i l.parts.items;
}

abbrev pub decreases-visit_inside : goal.decreases-visit_inside
decreases-visit_inside g l = 6 * weight (g.V.Walker.spare l.visitor.now) (node_doc l.node.now) + 1

abbrev pub decreases-visit_node : goal.decreases-visit_node
decreases-visit_node g l = 6 * weight (g.V.Walker.spare l.visitor.now) (node_doc l.node.now) + 2

abbrev pub decreases-visit_part : goal.decreases-visit_part
decreases-visit_part g l = 6 * weight (g.V.Walker.spare l.visitor.now) (part_doc l.part.now) + 3

abbrev pub decreases-visit_field : goal.decreases-visit_field
decreases-visit_field g l = 6 * weight (g.V.Walker.spare l.visitor.now) (part_doc l.part.now) + 4

abbrev pub decreases-visit_fields : goal.decreases-visit_fields
decreases-visit_fields g l = 6 * weights (g.V.Walker.spare l.visitor.now) (docs_in l.parts.now.items) + 5

abbrev pub decreases-visit_elements : goal.decreases-visit_elements
decreases-visit_elements g l = 6 * weights (g.V.Walker.spare l.visitor.now) (docs_in l.parts.now.items) + 5
