use Rattle.std.proofs.Common.{◌∙◌, ap, arith, option_map, option_to_list}
use Rattle.oxt_stores.specs.Insertion.{docs}
use Rattle.oxt_tree.specs.View.{node_doc}
use Rattle.oxt_traverse.specs.Closed.{imports}
use Rattle.oxt_traverse.proofs.Imports.{declared_below, imports_fit, place_fits}
use Rattle.oxt_traverse.proofs.Logs.{on_ok}
use Rattle.oxt_traverse.proofs.close.declare_below_imports.Goals as goal

pub insert_at-requires : goal.insert_at-requires
insert_at-requires c =
    let counted = c.count_imports-place.ensures ∙ ap (λ ps. imports (docs ps)) c.as_slice.ensures.value in
    let fit = imports_fit c.args.statements.now.items in
    omega arith

pub insert_at-requires-2 : goal.insert_at-requires-2
insert_at-requires-2 c =
    let counted = c.count_imports-place.ensures ∙ ap (λ ps. imports (docs ps)) c.as_slice.ensures.value in
    place_fits c.args.statements.now.items c.insert_at.new.statements.items (option_to_list (option_map node_doc c.in_ok-by_var.by_let)) _ counted c.in_ok-insert_at.ensures

pub returns-clause-declared : goal.returns-clause-declared
returns-clause-declared c =
    let counted = c.count_imports-place.ensures ∙ ap (λ ps. imports (docs ps)) c.as_slice.ensures.value in
    on_ok c.insert_at-2.result (λ second. declared_below c.args.statements.now.items c.insert_at.new.statements.items c.insert_at-2.new.statements.items c.count_imports-place.result _ _ _ _ counted c.in_ok-by_var.ensures.by_var c.in_ok-by_var.ensures.by_let c.in_ok-insert_at.ensures second) c.insert_at-2.ensures
