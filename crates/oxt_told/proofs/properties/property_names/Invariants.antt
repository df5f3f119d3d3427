-- The names so far, and then those of the parameters that are left.
use Rattle.std.proofs.Common.{◌≡◌, ◌++◌, drop}
use Rattle.oxt_told.specs.Classes.{property_names}
use Rattle.oxt_tree.specs.Bound.{bound_views}
use Rattle.oxt_tree.specs.View.{docs_in}
use Rattle.oxt_told.proofs.properties.property_names.Given as goal

abbrev pub invariant-loop-parameter : goal.invariant-loop-parameter
invariant-loop-parameter l = property_names (docs_in l.parameters) ≡ bound_views l.names.items ++ property_names (docs_in (drop l.parameter-index l.parameters))
