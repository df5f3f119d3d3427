-- The marks so far stand in front of those of what is left.
use Rattle.std.proofs.Common.{◌≡◌, ◌++◌, drop}
use Rattle.oxt_resolve.specs.Marks.{each_marks, mark_views}
use Rattle.oxt_tree.specs.View.{docs_in}
use Rattle.oxt_resolve.proofs.marks.+marks.Given as goal

abbrev pub invariant-push_each-loop-part : goal.invariant-push_each-loop-part
invariant-push_each-loop-part l = mark_views l.initial.out.items ++ each_marks (docs_in l.parts) ≡ mark_views l.out.items ++ each_marks (docs_in (drop l.part-index l.parts))
