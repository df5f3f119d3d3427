-- A field by its name is the part at the place of its row.
use Rattle.std.proofs.Common.{◌≡◌, ◌∙◌, sym, ap, subst, IfOk, option_map}
use Rattle.oxt_grammar.specs.Keys.{key_of}
use Rattle.oxt_constant.proofs.Found.{field_none, field_past, field_some}
use Rattle.oxt_constant.specs.Evaluated.{Seen, constant_views}
use Rattle.oxt_constant.specs.Operands.{operand_view}
use Rattle.oxt_constant.proofs.evaluate.+constant.Goals as goal

pub of_field-returns-in-Some-get : goal.of_field-returns-in-Some-get
of_field-returns-in-Some-get g t c =
    let same = field_some (g.M.Meanings.env c.args.env.now) (key_of c.args.field) c.args.node.now.kind c.rows.result.now c.args.node.now.parts.items c.deref.result.now c.in-Some.place c.in-Some-get.part.now c.rows.ensures (sym c.in-Some.is ∙ c.place_of.ensures) c.deref.ensures.value c.in-Some-get.ensures.lookup.3.0 c.in-Some-get.ensures.lookup.1 in
    subst (λ (s : Seen). IfOk c.of_part.result (λ v. option_map operand_view v ≡ s.one)) same c.of_part.ensures

pub of_field-returns-in-None-get : goal.of_field-returns-in-None-get
of_field-returns-in-None-get g t c =
    ap (λ (s : Seen). s.one) (field_past (g.M.Meanings.env c.args.env.now) (key_of c.args.field) c.args.node.now.kind c.rows.result.now c.args.node.now.parts.items c.deref.result.now c.in-Some.place c.rows.ensures (sym c.in-Some.is ∙ c.place_of.ensures) c.deref.ensures.value c.in-None-get.ensures.lookup.3)

pub of_field-returns-in-None : goal.of_field-returns-in-None
of_field-returns-in-None g t c =
    ap (λ (s : Seen). s.one) (field_none (g.M.Meanings.env c.args.env.now) (key_of c.args.field) c.args.node.now.kind c.rows.result.now c.args.node.now.parts.items c.rows.ensures (sym c.in-None.is ∙ c.place_of.ensures))

pub all_in_field-returns-in-Some-get : goal.all_in_field-returns-in-Some-get
all_in_field-returns-in-Some-get g t c =
    let same = field_some (g.M.Meanings.env c.args.env.now) (key_of c.args.field) c.args.node.now.kind c.rows.result.now c.args.node.now.parts.items c.deref.result.now c.in-Some.place c.in-Some-get.part.now c.rows.ensures (sym c.in-Some.is ∙ c.place_of.ensures) c.deref.ensures.value c.in-Some-get.ensures.lookup.3.0 c.in-Some-get.ensures.lookup.1 in
    subst (λ (s : Seen). IfOk c.all_in_part.result (λ vs. option_map (λ v. constant_views v.items) vs ≡ s.all)) same c.all_in_part.ensures

pub all_in_field-returns-in-None-get : goal.all_in_field-returns-in-None-get
all_in_field-returns-in-None-get g t c =
    ap (λ (s : Seen). s.all) (field_past (g.M.Meanings.env c.args.env.now) (key_of c.args.field) c.args.node.now.kind c.rows.result.now c.args.node.now.parts.items c.deref.result.now c.in-Some.place c.rows.ensures (sym c.in-Some.is ∙ c.place_of.ensures) c.deref.ensures.value c.in-None-get.ensures.lookup.3)

pub all_in_field-returns-in-None : goal.all_in_field-returns-in-None
all_in_field-returns-in-None g t c =
    ap (λ (s : Seen). s.all) (field_none (g.M.Meanings.env c.args.env.now) (key_of c.args.field) c.args.node.now.kind c.rows.result.now c.args.node.now.parts.items c.rows.ensures (sym c.in-None.is ∙ c.place_of.ensures))
