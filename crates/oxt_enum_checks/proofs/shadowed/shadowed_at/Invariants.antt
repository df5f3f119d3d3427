-- The names so far stand in front of those of what is left.
use Rattle.std.proofs.Common.{◌≡◌, ◌++◌, drop}
use Rattle.oxt_enum_checks.proofs.ShadowSites.{said, site_docs}
use Rattle.oxt_enum_checks.specs.Shadows.{shadow_views}
use Rattle.oxt_declares.specs.Sites.{said_of_each}
use Rattle.oxt_enum_checks.proofs.shadowed.shadowed_at.Given as goal

abbrev pub invariant-loop-i : goal.invariant-loop-i
invariant-loop-i l = said_of_each (said l.legacy l.scoping) (site_docs l.sites) ≡ shadow_views l.names.items ++ said_of_each (said l.legacy l.scoping) (site_docs (drop l.i l.sites))
