-- The names of the fields so far, and then those of the properties that are left.
use Rattle.std.proofs.Common.{◌≡◌, map, drop}
use Rattle.oxt_fields.specs.Rules.{rules_view}
use Rattle.oxt_told.proofs.Taking.{free_so_far}
use Rattle.oxt_told.specs.Classes.{free_names, is_own_name}
use Rattle.oxt_tree.specs.Bound.{bound_views}
use Rattle.oxt_tree.specs.View.{docs_in}
use Rattle.oxt_told.proofs.properties.free_names.Given as goal

abbrev pub invariant-loop-property : goal.invariant-loop-property
invariant-loop-property l = free_names (is_own_name (rules_view l.rules) (docs_in l.elements)) (map (λ p. p.name) (bound_views l.properties)) ≡ free_so_far l.fields.items l.taken (drop l.property-index l.properties)
