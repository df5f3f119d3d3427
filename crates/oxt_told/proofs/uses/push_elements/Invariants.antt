-- The uses so far, and then those in the elements that are left.
use Rattle.std.proofs.Common.{◌≡◌, ◌++◌, drop}
use Rattle.oxt_options.specs.Lists.{numbers_in}
use Rattle.oxt_told.specs.Uses.{group_uses, in_elements}
use Rattle.oxt_tree.specs.View.{docs_in}
use Rattle.oxt_told.proofs.uses.push_elements.Given as goal

abbrev pub invariant-loop-element : goal.invariant-loop-element
invariant-loop-element l = numbers_in l.initial.uses.items ++ in_elements (group_uses l.search.scoping.now l.search.group) (docs_in l.elements) ≡ numbers_in l.uses.items ++ in_elements (group_uses l.search.scoping.now l.search.group) (docs_in (drop l.element-index l.elements))
