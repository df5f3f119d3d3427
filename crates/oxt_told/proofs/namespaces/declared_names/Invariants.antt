-- The names so far, and then those of the declarators that are left.
use Rattle.std.proofs.Common.{◌≡◌, ◌++◌, drop}
use Rattle.oxt_told.specs.Namespaces.{declared_names}
use Rattle.oxt_tree.specs.Bound.{bound_views}
use Rattle.oxt_tree.specs.View.{docs_in}
use Rattle.oxt_told.proofs.namespaces.declared_names.Given as goal

abbrev pub invariant-loop-declarator : goal.invariant-loop-declarator
invariant-loop-declarator l = declared_names (docs_in l.declarators) ≡ bound_views l.names.items ++ declared_names (docs_in (drop l.declarator-index l.declarators))
