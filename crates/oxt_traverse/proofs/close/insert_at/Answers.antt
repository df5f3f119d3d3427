use Rattle.std.proofs.Common.{◌∙◌, ◌++◌, ◌∷◌, ap, sym, drop, take, option_map, option_to_list}
use Rattle.oxt_stores.specs.Insertion.{docs}
use Rattle.oxt_tree.specs.View.{node_doc}
use Rattle.oxt_traverse.proofs.Imports.{inserted}
use Rattle.oxt_traverse.proofs.close.insert_at.Goals as goal

pub returns-in_ok-insert : goal.returns-in_ok-insert
returns-in_ok-insert c =
    let front = take c.args.place (docs c.args.statements.now.items) in
    let rest = drop c.args.place (docs c.args.statements.now.items) in
    ap docs c.in_ok-insert.ensures.items ∙ (inserted c.args.statements.now.items c.args.place c.part_of-part.result ∙ (ap (λ d. front ++ d ∷ rest) c.part_of-part.ensures ∙ ap (λ o. front ++ (option_to_list (option_map node_doc o) ++ rest)) (sym c.in-Some.is)))
