use Rattle.std.proofs.Common.{ap, arith, refl}
use Rattle.oxt_grammar.specs.Keys.{key_of}
use Rattle.oxt_rewrite.proofs.Changed.{field_beyond, field_changed, field_missing}
use Rattle.oxt_rewrite.proofs.plain_source.put_field.Goals as goal
use Rattle.oxt_tree.specs.Doc.{node}
use Rattle.oxt_tree.specs.View.{part_doc}

pub returns-then-place-len : goal.returns-then-place-len
returns-then-place-len c = ap (node c.args.node.now.kind c.args.node.now.id.0 c.args.node.now.span.start c.args.node.now.span.end) (field_changed (λ _. part_doc c.args.part) (key_of c.args.field) c.args.node.now.kind c.rows.result.now _ c.in-Some.place c.args.node.now.parts.items c.args.part c.index_mut.result.now c.rows.ensures c.place_of.ensures c.in-Some.is (omega arith) c.index_mut.ensures.value refl)

pub returns-else-place-len : goal.returns-else-place-len
returns-else-place-len c = ap (node c.args.node.now.kind c.args.node.now.id.0 c.args.node.now.span.start c.args.node.now.span.end) (field_beyond _ (key_of c.args.field) c.args.node.now.kind c.rows.result.now _ c.in-Some.place c.args.node.now.parts.items c.rows.ensures c.place_of.ensures c.in-Some.is (omega arith))

pub returns-in_default : goal.returns-in_default
returns-in_default c = ap (node c.args.node.now.kind c.args.node.now.id.0 c.args.node.now.span.start c.args.node.now.span.end) (field_missing _ (key_of c.args.field) c.args.node.now.kind c.rows.result.now _ c.args.node.now.parts.items c.rows.ensures c.place_of.ensures c.in_default.is)
