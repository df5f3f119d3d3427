-- The names so far with their groups, and then those that are left.
use Rattle.std.proofs.Common.{◌≡◌, ◌++◌, drop}
use Rattle.oxt_facts.specs.Told.{names_view}
use Rattle.oxt_told.specs.Namespaces.{with_groups}
use Rattle.oxt_tree.specs.Bound.{bound_views}
use Rattle.oxt_told.proofs.namespaces.with_groups.Given as goal

abbrev pub invariant-loop-name : goal.invariant-loop-name
invariant-loop-name l = with_groups l.scoping (bound_views l.names) ≡ names_view l.found.items ++ with_groups l.scoping (bound_views (drop l.name-index l.names))
