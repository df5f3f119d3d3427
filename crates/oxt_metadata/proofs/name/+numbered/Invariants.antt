-- What is left to search decides.
use Rattle.std.proofs.Common.{◌≡◌, drop}
use Rattle.oxt_metadata.specs.DottedNames.{node_among}
use Rattle.oxt_tree.specs.View.{docs_in}
use Rattle.oxt_metadata.proofs.name.+numbered.Given as goal

abbrev pub invariant-node_among-loop-part : goal.invariant-node_among-loop-part
invariant-node_among-loop-part l = node_among l.number.0 (docs_in l.parts) ≡ node_among l.number.0 (docs_in (drop l.part-index l.parts))
