-- The elements so far were added, and those that are left come after them.
use Rattle.std.proofs.Common.{◌≡◌, drop}
use Rattle.oxt_tree.specs.View.{docs_in}
use Rattle.oxt_facts.specs.Inside.{privates_of}
use Rattle.oxt_facts.proofs.inside.add_each.Given as goal

abbrev pub invariant-loop-element : goal.invariant-loop-element
invariant-loop-element l = privates_of l.facts (docs_in l.elements) l.initial.class ≡ privates_of l.facts (docs_in (drop l.element-index l.elements)) l.class
