-- The names so far stand in front of those of what is left.
use Rattle.std.proofs.Common.{◌≡◌, ◌++◌, drop}
use Rattle.oxt_enum_checks.specs.Shadows.{all_among, shadow_views}
use Rattle.oxt_tree.specs.View.{docs_in}
use Rattle.oxt_enum_checks.proofs.shadowed.+find.Given as goal

abbrev pub invariant-push_each-loop-part : goal.invariant-push_each-loop-part
invariant-push_each-loop-part l = shadow_views l.initial.out.items ++ all_among l.legacy l.scoping (docs_in l.parts) l.around ≡ shadow_views l.out.items ++ all_among l.legacy l.scoping (docs_in (drop l.part-index l.parts)) l.around
