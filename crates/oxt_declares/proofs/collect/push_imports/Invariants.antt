-- The names so far stand in front of those of what is left.
use Rattle.std.proofs.Common.{◌≡◌, ◌++◌, drop}
use Rattle.oxt_tree.specs.View.{docs_in}
use Rattle.oxt_declares.specs.Declarations.{declared_views}
use Rattle.oxt_declares.specs.Declares.{imported}
use Rattle.oxt_declares.proofs.collect.push_imports.Given as goal

abbrev pub invariant-loop-part : goal.invariant-loop-part
invariant-loop-part l = declared_views l.initial.out.items ++ imported l.is_type (docs_in l.parts) ≡ declared_views l.out.items ++ imported l.is_type (docs_in (drop l.part-index l.parts))
