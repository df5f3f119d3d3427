-- An object reads as a node of the category that the place holds.
use Rattle.std.proofs.Common.{◌≡◌, Some, Ok, sym, ap, ◌∙◌, arith, rules}
use Rattle.json.specs.Value.{value_view, members_view}
use Rattle.serde_json.specs.Data.{object}
use Rattle.oxt_grammar.specs.Places.{category_of}
use Rattle.oxt_tree.specs.View.{part_doc, node_doc}
use Rattle.oxt_tree.specs.declared.tree.Part.{the_lemmas}
use Rattle.oxt_tree.specs.declared.tree.Part.TheVariants as part
use Rattle.oxt_json.specs.Data.{data_of, members_data}
use Rattle.oxt_json.proofs.Found.{object_in}
use Rattle.oxt_json.proofs.Members.{object_as}
use Rattle.oxt_json.proofs.nodes.+read.Goals as goal

pub read_value-returns-in_ok-node-in-Object : goal.read_value-returns-in_ok-node-in-Object
read_value-returns-in_ok-node-in-Object t c =
    let found = c.in_ok-node-in-Object in
    let seen : data_of (value_view c.args.value.now) ≡ object (members_data (members_view c.deref-in-Object.result.now)) =
    ap (λ v. data_of (value_view v)) c.in-Object.is ∙ ap data_of (object_in c.in-Object.members) ∙ ap (λ ms. object (members_data (members_view ms))) (sym c.deref-in-Object.ensures.value) in
    let held : category_of c.args.holds ≡ Some c.in_ok-category-in-Object.category = grind arith in
    let shown : part_doc (part.Node found.node) ≡ node_doc found.node = search (rules, the_lemmas) in
    object_as _ _ c.args.setting c.args.holds c.in_ok-category-in-Object.category c.args.ids.now.next _ seen held found.ensures ∙ ap (λ d. Ok (d, c.read_node.new.ids.next)) (sym shown)
