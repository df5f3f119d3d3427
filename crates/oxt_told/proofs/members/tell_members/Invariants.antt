-- What is told so far, and then of the members that are left, behind the one before them.
use Rattle.std.proofs.Common.{◌≡◌, drop, None, option_map}
use Rattle.oxt_told.specs.Source.{all_told, around_view, members_told}
use Rattle.oxt_names.specs.Names.{name_bytes}
use Rattle.oxt_tree.specs.View.{docs_in}
use Rattle.oxt_told.proofs.members.tell_members.Given as goal

abbrev pub invariant-loop-member : goal.invariant-loop-member
invariant-loop-member l = all_told l.initial.told (members_told l.scoping (around_view l.around) None (docs_in l.members)) ≡ all_told l.told (members_told l.scoping (around_view l.around) (option_map (λ name. name_bytes name.now) l.previous) (docs_in (drop l.member-index l.members)))
