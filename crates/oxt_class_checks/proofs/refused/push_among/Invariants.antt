-- What is refused so far stands in front of what is refused of the rest, before which the names so far stand.
use Rattle.std.proofs.Common.{◌≡◌, ◌++◌, drop}
use Rattle.oxt_class_checks.specs.Refused.{refused_among}
use Rattle.oxt_fields.specs.Rules.{rules_view}
use Rattle.oxt_options.specs.Lists.{numbers_in}
use Rattle.oxt_tree.specs.View.{docs_in}
use Rattle.oxt_class_checks.proofs.refused.push_among.Given as goal

abbrev pub invariant-loop-element : goal.invariant-loop-element
invariant-loop-element l =
    numbers_in l.initial.out.items ++ refused_among (rules_view l.rules) l.is_reserved l.initial.names (docs_in l.elements)
    ≡ numbers_in l.out.items ++ refused_among (rules_view l.rules) l.is_reserved l.names (docs_in (drop l.element-index l.elements))
