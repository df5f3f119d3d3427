-- No member so far would be too large.
use Rattle.std.proofs.Common.{◌≡◌, drop, false}
use Rattle.oxt_enum_checks.specs.Wide.{wide_among}
use Rattle.oxt_tree.specs.View.{docs_in}
use Rattle.oxt_enum_checks.proofs.WideLoops.{first_of}
use Rattle.oxt_enum_checks.proofs.wide.wide_among.Given as goal

abbrev pub invariant-loop-member : goal.invariant-loop-member
invariant-loop-member l = wide_among l.scoping false (docs_in l.members) ≡ first_of l.scoping l.is_behind (drop l.member-index l.members)
