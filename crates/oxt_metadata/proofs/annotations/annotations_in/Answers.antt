-- The shapes that were found are those of the program.
use Rattle.std.proofs.Common.{◌≡◌, subst, IfOk}
use Rattle.oxt_metadata.proofs.Turns.{sights_same}
use Rattle.oxt_tree.specs.View.{node_doc}
use Rattle.oxt_metadata.proofs.annotations.annotations_in.Goals as goal

pub returns : goal.returns
returns c =
    subst (λ l. IfOk c.annotations_seen.result (λ found. found.items ≡ l))
    (sights_same c.args.scoping.now c.in_ok-shapes.shapes c.args.is_strict (node_doc c.args.program.now) c.in_ok-shapes.ensures) c.annotations_seen.ensures
