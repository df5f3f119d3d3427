-- The members so far stand in front of those of what is left.
use Rattle.std.proofs.Common.{◌≡◌, ◌++◌, drop}
use Rattle.oxt_enums.specs.Members.{each_members, found_views, spot_view}
use Rattle.oxt_tree.specs.View.{docs_in}
use Rattle.oxt_enums.proofs.members.+members.Given as goal

abbrev pub invariant-push_each-loop-part : goal.invariant-push_each-loop-part
invariant-push_each-loop-part l = found_views l.initial.out.items ++ each_members (docs_in l.parts) (spot_view l.initial.here) ≡ found_views l.out.items ++ each_members (docs_in (drop l.part-index l.parts)) (spot_view l.here)
