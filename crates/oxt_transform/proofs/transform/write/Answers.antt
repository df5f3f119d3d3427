-- The law, of what was written.
use Rattle.oxt_transform.proofs.Steps.{only_of}
use Rattle.oxt_transform.proofs.transform.write.Goals as goal
use Rattle.oxt_tree.specs.View.{node_doc}

pub returns-clause-only : goal.returns-clause-only
returns-clause-only c = only_of c.text_tells_trees.ensures c.in_ok-bytes.bytes.items (node_doc c.args.program.now.root) c.in_ok-bytes.ensures.in_order
