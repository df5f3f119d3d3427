use Rattle.std.proofs.Common.{map, rules}
use Rattle.oxt_grammar.specs.Field.{row_view}
use Rattle.std.proofs.lemmas.Result.{on_ok_weaker}
use Rattle.oxt_json.proofs.WriteLoops.{field_here, name_here, no_row, no_part}
use Rattle.oxt_json.proofs.WrittenNodes.{node_written, node_fits}
use Rattle.oxt_tree.specs.View.{docs_in}
use Rattle.oxt_json.proofs.write.+spelling.Goals as goal

pub write_field_at-returns-in_default-clause-numbers : goal.write_field_at-returns-in_default-clause-numbers
write_field_at-returns-in_default-clause-numbers t c = rw (no_row c.args.rows.now c.args.place (docs_in c.args.parts.now) c.in_default.ensures.lookup.3) tt

pub write_field_at-returns-in_default-clause-tokens : goal.write_field_at-returns-in_default-clause-tokens
write_field_at-returns-in_default-clause-tokens t c = rw (no_row c.args.rows.now c.args.place (docs_in c.args.parts.now) c.in_default.ensures.lookup.3) (search rules)

pub write_field_at-returns-in-None-clause-numbers : goal.write_field_at-returns-in-None-clause-numbers
write_field_at-returns-in-None-clause-numbers t c = rw (no_part (map row_view c.args.rows.now) c.args.place c.args.parts.now c.in-None.ensures.lookup.3) tt

pub write_field_at-returns-in-None-clause-tokens : goal.write_field_at-returns-in-None-clause-tokens
write_field_at-returns-in-None-clause-tokens t c = rw (no_part (map row_view c.args.rows.now) c.args.place c.args.parts.now c.in-None.ensures.lookup.3) (search rules)

pub write_field_at-returns-in-Some-get-clause-tokens : goal.write_field_at-returns-in-Some-get-clause-tokens
write_field_at-returns-in-Some-get-clause-tokens t c =
    let row = c.in-Some.ensures.lookup in
    let part = c.in-Some-get.ensures.lookup in
    rw (field_here c.args.rows.now c.args.parts.now c.args.place c.in-Some.row.now c.in-Some-get.part.now row.3.0 part.3.0 row.1 part.1, name_here c.args.rows.now c.args.place c.in-Some.row.now row.3.0 row.1) c.write_field.ensures.tokens

pub write_field_at-returns-in-Some-get-clause-numbers : goal.write_field_at-returns-in-Some-get-clause-numbers
write_field_at-returns-in-Some-get-clause-numbers t c =
    let row = c.in-Some.ensures.lookup in
    let part = c.in-Some-get.ensures.lookup in
    rw (field_here c.args.rows.now c.args.parts.now c.args.place c.in-Some.row.now c.in-Some-get.part.now row.3.0 part.3.0 row.1 part.1) c.write_field.ensures.numbers

pub write_node-returns-clause-tokens : goal.write_node-returns-clause-tokens
write_node-returns-clause-tokens t c =
    let node = c.args.node.now in
    on_ok_weaker c.write_members.result (λ e. node_written node.kind node.span.start node.span.end node.parts.items c.as_slice.result.now _ _ _ c.as_slice.ensures.value c.in_ok-begin_object.ensures.ok e) c.write_members.ensures.tokens

pub write_node-returns-clause-numbers : goal.write_node-returns-clause-numbers
write_node-returns-clause-numbers t c =
    let node = c.args.node.now in
    on_ok_weaker c.write_members.result (λ e. node_fits node.kind node.span.start node.span.end node.parts.items c.as_slice.result.now c.as_slice.ensures.value e) c.write_members.ensures.numbers
