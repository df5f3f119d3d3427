-- The members that are left make of the shape so far what all make of none.
use Rattle.std.proofs.Common.{◌≡◌, drop}
use Rattle.oxt_metadata.specs.Shapes.{shape_from}
use Rattle.oxt_metadata.specs.declared.shape.Shape.TheVariants as shape
use Rattle.oxt_tree.specs.View.{docs_in}
use Rattle.oxt_metadata.proofs.shape.shape_among.Given as goal

abbrev pub invariant-loop-member : goal.invariant-loop-member
invariant-loop-member l =
    shape_from shape.Undecided (docs_in l.members) ≡ shape_from l.shape (docs_in (drop l.member-index l.members))
