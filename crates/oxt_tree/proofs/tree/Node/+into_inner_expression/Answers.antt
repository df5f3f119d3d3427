-- The part that was taken out is the first field of a wrapper.
use Rattle.std.proofs.Common.{rules, arith, sym, ◌∙◌, ◌≡◌, ◌<◌, length}
use Rattle.oxt_tree.specs.View.{node_doc, part_doc}
use Rattle.oxt_tree.specs.declared.tree.Part.{the_lemmas}
use Rattle.oxt_tree.proofs.Insides.{unwrapped}
use Rattle.oxt_tree.proofs.tree.Node.+into_inner_expression.Goals as goal

pub returns : goal.returns
returns t c =
    let is_node : part_doc c.swap_remove.result ≡ node_doc c.in-Node.inner = rw c.in-Node.is (search (rules, the_lemmas)) in
    let some : 0 < length c.args.self.parts.items = omega arith in
    unwrapped c.args.self c.in-Node.inner c.swap_remove.result (node_doc c.into_inner_expression.result) c.into_inner_expression.ensures c.swap_remove.ensures.value is_node some (sym c.contains.ensures ∙ c.if-not-contains.false)
