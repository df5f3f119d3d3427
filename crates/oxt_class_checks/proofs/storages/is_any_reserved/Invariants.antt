-- No element so far has a reserved name, and what is left decides.
use Rattle.std.proofs.Common.{◌≡◌, drop}
use Rattle.oxt_class_checks.specs.Storages.{is_any_reserved}
use Rattle.oxt_fields.specs.Rules.{rules_view}
use Rattle.oxt_tree.specs.View.{docs_in}
use Rattle.oxt_class_checks.proofs.storages.is_any_reserved.Given as goal

abbrev pub invariant-loop-element : goal.invariant-loop-element
invariant-loop-element l =
    is_any_reserved (rules_view l.rules) (docs_in l.elements) ≡ is_any_reserved (rules_view l.rules) (docs_in (drop l.element-index l.elements))
