-- The names so far stand in front of those of what is left.
use Rattle.std.proofs.Common.{◌≡◌, ◌++◌, drop}
use Rattle.oxt_certificate.specs.Bound.{each_made}
use Rattle.oxt_certificate.specs.BoundViews.{made_views}
use Rattle.oxt_tree.specs.View.{docs_in}
use Rattle.oxt_certificate.proofs.bound.+made.Given as goal

abbrev pub invariant-push_each-loop-part : goal.invariant-push_each-loop-part
invariant-push_each-loop-part l = made_views l.initial.out.items ++ each_made l.facts (docs_in l.parts) ≡ made_views l.out.items ++ each_made l.facts (docs_in (drop l.part-index l.parts))
