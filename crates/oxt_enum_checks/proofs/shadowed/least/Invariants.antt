-- The least so far, with what is left, decides.
use Rattle.std.proofs.Common.{◌≡◌, drop, fold, option_map}
use Rattle.oxt_enum_checks.specs.Shadows.{least, lesser, shadow_view, shadow_views}
use Rattle.oxt_enum_checks.proofs.shadowed.least.Given as goal

abbrev pub invariant-loop-name : goal.invariant-loop-name
invariant-loop-name l = least (shadow_views l.names) ≡ fold lesser (option_map shadow_view l.least) (shadow_views (drop l.name-index l.names))
