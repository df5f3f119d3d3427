-- What will be noted once the rest is looked at is what was to be noted of all.
use Rattle.std.proofs.Common.{◌≡◌}
use Rattle.oxt_visit.proofs.Looked.{with_elements, with_fields}
use Rattle.oxt_visit.specs.Hooks.{expressions}
use Rattle.oxt_visit.proofs.look.+look.Given as goal

abbrev pub invariant-look_at_elements-loop-part : goal.invariant-look_at_elements-loop-part
invariant-look_at_elements-loop-part g l = record {
  left : with_elements g.V.VisitJs.note expressions l.place l.parts l.part-index (g.V.VisitJs.notes l.visitor) ≡ with_elements g.V.VisitJs.note expressions l.place l.parts 0 (g.V.VisitJs.notes l.initial.visitor);
}

abbrev pub invariant-look_at_fields-loop-i : goal.invariant-look_at_fields-loop-i
invariant-look_at_fields-loop-i g l = record {
  left : with_fields g.V.VisitJs.note expressions l.rows l.parts l.i (g.V.VisitJs.notes l.visitor) ≡ with_fields g.V.VisitJs.note expressions l.rows l.parts 0 (g.V.VisitJs.notes l.initial.visitor);
}
