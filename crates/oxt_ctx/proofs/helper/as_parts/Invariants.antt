-- The parts so far are the nodes so far.
use Rattle.std.proofs.Common.{◌≡◌, map}
use Rattle.oxt_tree.specs.View.{node_doc, part_doc}
use Rattle.oxt_ctx.proofs.helper.as_parts.Given as goal

abbrev pub invariant-loop-node : goal.invariant-loop-node
invariant-loop-node l = record {
  same : map part_doc l.parts.items ≡ map node_doc l.yielded;
}
