-- What is left decides.
use Rattle.std.proofs.Common.{◌≡◌, List, drop}
use Rattle.oxt_certificate.specs.Bound.{MadeAt, stray}
use Rattle.oxt_certificate.specs.BoundViews.{IsTableOf, made_views}
use Rattle.oxt_certificate.proofs.bound.first_stray.Given as goal

abbrev pub invariant-loop-name : goal.invariant-loop-name
invariant-loop-name l = (all : List MadeAt) → IsTableOf all l.bindings → stray l.facts.owners all (made_views l.names) ≡ stray l.facts.owners all (made_views (drop l.name-index l.names))
