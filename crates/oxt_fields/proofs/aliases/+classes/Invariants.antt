-- What was given so far stands in front of what is left.
use Rattle.std.proofs.Common.{◌≡◌, ◌++◌, drop}
use Rattle.oxt_fields.specs.Aliases.{decorated, joined}
use Rattle.oxt_fields.specs.Rules.{rules_view}
use Rattle.oxt_options.specs.Lists.{pairs_in}
use Rattle.oxt_search.specs.All.{all_among}
use Rattle.oxt_tree.specs.View.{docs_in}
use Rattle.oxt_fields.proofs.aliases.+classes.Given as goal

abbrev pub invariant-push_each-loop-i : goal.invariant-push_each-loop-i
invariant-push_each-loop-i l = pairs_in l.initial.out.items ++ joined (all_among (decorated l.scoping (rules_view l.rules)) (docs_in l.parts) tt) ≡ pairs_in l.out.items ++ joined (all_among (decorated l.scoping (rules_view l.rules)) (docs_in (drop l.i l.parts)) tt)
