-- The uses so far, and then those in the annotations of the parameters that are left.
use Rattle.std.proofs.Common.{◌≡◌, ◌++◌, drop}
use Rattle.oxt_options.specs.Lists.{numbers_in}
use Rattle.oxt_told.specs.Uses.{group_uses, in_types}
use Rattle.oxt_tree.specs.View.{docs_in}
use Rattle.oxt_told.proofs.uses.push_types.Given as goal

abbrev pub invariant-loop-parameter : goal.invariant-loop-parameter
invariant-loop-parameter l = numbers_in l.initial.uses.items ++ in_types (group_uses l.search.scoping.now l.search.group) (docs_in l.parameters) ≡ numbers_in l.uses.items ++ in_types (group_uses l.search.scoping.now l.search.group) (docs_in (drop l.parameter-index l.parameters))
