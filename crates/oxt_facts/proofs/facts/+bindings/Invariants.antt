-- The bindings so far were taken, and those of what is left come after them.
use Rattle.std.proofs.Common.{◌≡◌, drop, filter}
use Rattle.oxt_tree.specs.View.{docs_in}
use Rattle.oxt_names.specs.Made.{all_added}
use Rattle.oxt_facts.specs.Facts.{bindings_of_each, is_new}
use Rattle.oxt_facts.proofs.facts.+bindings.Given as goal

abbrev pub invariant-take_in_each-loop-part : goal.invariant-take_in_each-loop-part
invariant-take_in_each-loop-part l = all_added (filter (is_new l.names) (bindings_of_each (docs_in l.parts))) l.initial.made ≡ all_added (filter (is_new l.names) (bindings_of_each (docs_in (drop l.part-index l.parts)))) l.made
