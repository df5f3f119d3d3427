-- What is told so far, and then of the members that are left.
use Rattle.std.proofs.Common.{◌≡◌, drop}
use Rattle.oxt_told.specs.Source.{all_told, around_view, members_bares}
use Rattle.oxt_tree.specs.View.{docs_in}
use Rattle.oxt_told.proofs.members.tell_members_bares.Given as goal

abbrev pub invariant-loop-member : goal.invariant-loop-member
invariant-loop-member l = all_told l.initial.told (members_bares l.scoping (around_view l.around) (docs_in l.members)) ≡ all_told l.told (members_bares l.scoping (around_view l.around) (docs_in (drop l.member-index l.members)))
