-- The names so far were taken, and those of what is left come after them.
use Rattle.std.proofs.Common.{◌≡◌, drop}
use Rattle.oxt_tree.specs.View.{docs_in}
use Rattle.oxt_names.specs.Made.{all_added}
use Rattle.oxt_resolve.specs.Names.{names_of_each}
use Rattle.oxt_resolve.proofs.names.+names.Given as goal

abbrev pub invariant-take_in_each-loop-part : goal.invariant-take_in_each-loop-part
invariant-take_in_each-loop-part l = all_added (names_of_each (docs_in l.parts)) l.initial.taken ≡ all_added (names_of_each (docs_in (drop l.part-index l.parts))) l.taken
