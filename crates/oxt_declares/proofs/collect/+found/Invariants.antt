-- What is found so far stands in front of what is left.
use Rattle.std.proofs.Common.{◌≡◌, ◌++◌, drop}
use Rattle.oxt_tree.specs.View.{docs_in}
use Rattle.oxt_declares.specs.Declarations.{declared_views}
use Rattle.oxt_declares.specs.Declares.{each_found}
use Rattle.oxt_declares.proofs.collect.+found.Given as goal

abbrev pub invariant-push_each-loop-part : goal.invariant-push_each-loop-part
invariant-push_each-loop-part l = declared_views l.initial.out.items ++ each_found (docs_in l.parts) l.mode ≡ declared_views l.out.items ++ each_found (docs_in (drop l.part-index l.parts)) l.mode
