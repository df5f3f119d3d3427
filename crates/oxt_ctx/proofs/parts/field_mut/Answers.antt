use Rattle.std.proofs.Common.{◌∙◌, ap, sym}
use Rattle.oxt_grammar.specs.Keys.{key_of}
use Rattle.oxt_tree.proofs.Places.{doc_at, named_at}
use Rattle.oxt_ctx.proofs.parts.field_mut.Goals as goal

pub returns-in-Some : goal.returns-in-Some
returns-in-Some c =
    c.at_mut.ensures
    ∙ (ap (doc_at c.args.node.now.parts.items) (sym c.in-Some.is)
    ∙ named_at (key_of c.args.field) c.args.node.now.kind c.rows.result.now c.args.node.now.parts.items c.place_of.result c.rows.ensures c.place_of.ensures)

pub returns-in-None : goal.returns-in-None
returns-in-None c =
    ap (doc_at c.args.node.now.parts.items) (sym c.in-None.is)
    ∙ named_at (key_of c.args.field) c.args.node.now.kind c.rows.result.now c.args.node.now.parts.items c.place_of.result c.rows.ensures c.place_of.ensures
