-- The numbers of a renumbered document follow one another.
use Rattle.std.proofs.lemmas.Result.{IfOk-weaker}
use Rattle.oxt_tree.specs.Copies.{renumbered, node_count, numbers_in}
use Rattle.oxt_tree.specs.View.{node_doc}
use Rattle.std.specs.List.{range_with_len}
use Rattle.std.proofs.Common.{◌≡◌}
use Rattle.oxt_tree.proofs.FreshNumbers.{numbers_of_copy}
use Rattle.oxt_tree.proofs.tree.Node.clone_node.Goals as goal

pub returns-clause-numbered : goal.returns-clause-numbered
returns-clause-numbered c =
    IfOk-weaker c.copy_node.result
    (λ copy. node_doc copy ≡ renumbered (node_doc c.args.self.now) c.args.ids.now.next)
    (λ copy. numbers_in (node_doc copy) ≡ range_with_len c.args.ids.now.next (node_count (node_doc c.args.self.now)))
    (λ copy copied. numbers_of_copy (node_doc copy) (node_doc c.args.self.now) c.args.ids.now.next copied)
    c.copy_node.ensures.copied
