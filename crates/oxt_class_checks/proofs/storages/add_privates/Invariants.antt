-- The names so far with those that are left.
use Rattle.std.proofs.Common.{◌≡◌, drop}
use Rattle.oxt_class_checks.specs.Storages.{with_privates}
use Rattle.oxt_tree.specs.View.{docs_in}
use Rattle.oxt_class_checks.proofs.storages.add_privates.Given as goal

abbrev pub invariant-loop-element : goal.invariant-loop-element
invariant-loop-element l =
    with_privates (docs_in l.elements) l.initial.names ≡ with_privates (docs_in (drop l.element-index l.elements)) l.names
