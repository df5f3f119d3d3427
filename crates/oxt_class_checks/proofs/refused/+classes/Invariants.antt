-- What is refused so far stands in front of what is refused in the rest.
use Rattle.std.proofs.Common.{◌≡◌, ◌++◌, drop}
use Rattle.oxt_class_checks.specs.Refused.{refused_each}
use Rattle.oxt_fields.specs.Rules.{rules_view}
use Rattle.oxt_options.specs.Lists.{numbers_in}
use Rattle.oxt_tree.specs.View.{docs_in}
use Rattle.oxt_class_checks.proofs.refused.+classes.Given as goal

abbrev pub invariant-push_each-loop-part : goal.invariant-push_each-loop-part
invariant-push_each-loop-part l =
    numbers_in l.initial.out.items ++ refused_each (rules_view l.rules) (docs_in l.parts)
    ≡ numbers_in l.out.items ++ refused_each (rules_view l.rules) (docs_in (drop l.part-index l.parts))
