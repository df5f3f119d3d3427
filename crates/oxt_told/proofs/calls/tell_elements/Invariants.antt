-- What is told so far, and then of the elements that are left, and how many of those take keys.
use Rattle.std.proofs.Common.{◌≡◌, drop, false}
use Rattle.oxt_fields.specs.Rules.{rules_view}
use Rattle.oxt_told.specs.Calls.{common_view, elements_told, takers}
use Rattle.oxt_told.specs.Source.{all_told}
use Rattle.oxt_tree.specs.View.{docs_in}
use Rattle.oxt_told.proofs.calls.tell_elements.Given as goal

abbrev pub invariant-loop-element : goal.invariant-loop-element
invariant-loop-element l = record {
  so_far : all_told l.initial.told (elements_told (rules_view l.source.rules) (common_view l.shared) false (docs_in l.elements)) ≡ all_told l.told (elements_told (rules_view l.source.rules) (common_view l.shared) l.waiting (docs_in (drop l.element-index l.elements)));
  left : l.left ≡ takers (docs_in (drop l.element-index l.elements));
}
