use Rattle.std.proofs.Common.{◌≡◌, ◌∙◌, sym, true, false, rules, arith}
use Rattle.oxt_grammar.specs.Keys.{key_of}
use Rattle.oxt_declares.proofs.TypeLoops.{field_none, field_past, field_some, no_more, one_fails, one_more}
use Rattle.oxt_declares.proofs.types_alone.+types.Goals as goal

pub is_field_of_types-returns-in-Some-get : goal.is_field_of_types-returns-in-Some-get
is_field_of_types-returns-in-Some-get t c =
    c.is_of_types.ensures ∙ field_some (key_of c.args.field) c.args.node.now.kind c.rows.result.now c.args.node.now.parts.items c.deref.result.now c.in-Some.place c.in-Some-get.part.now c.rows.ensures (sym c.in-Some.is ∙ c.place_of.ensures) c.deref.ensures.value c.in-Some-get.ensures.lookup.3.0 c.in-Some-get.ensures.lookup.1

pub is_field_of_types-returns-in-None-get : goal.is_field_of_types-returns-in-None-get
is_field_of_types-returns-in-None-get t c =
    field_past (key_of c.args.field) c.args.node.now.kind c.rows.result.now c.args.node.now.parts.items c.deref.result.now c.in-Some.place c.rows.ensures (sym c.in-Some.is ∙ c.place_of.ensures) c.deref.ensures.value c.in-None-get.ensures.lookup.3

pub is_field_of_types-returns-in-None : goal.is_field_of_types-returns-in-None
is_field_of_types-returns-in-None t c =
    field_none (key_of c.args.field) c.args.node.now.kind c.rows.result.now c.args.node.now.parts.items c.rows.ensures (sym c.in-None.is ∙ c.place_of.ensures)

pub all_of_types-returns-then-not-is_of_types : goal.all_of_types-returns-then-not-is_of_types
all_of_types-returns-then-not-is_of_types t c =
    let h : c.is_of_types.result ≡ false = search rules in
    sym (one_fails _ c.args.parts.now c.loop-part.part-index c.part-item.result (omega arith) c.part-item.is (sym c.is_of_types.ensures ∙ h) c.loop-part.invariant)

pub all_of_types-loop-part-preserved : goal.all_of_types-loop-part-preserved
all_of_types-loop-part-preserved t c =
    let h : c.is_of_types.result ≡ true = search rules in
    one_more _ c.args.parts.now c.loop-part.part-index c.part-item.result (omega arith) c.part-item.is (sym c.is_of_types.ensures ∙ h) c.loop-part.invariant

pub all_of_types-returns : goal.all_of_types-returns
all_of_types-returns t c = sym (no_more _ c.args.parts.now c.loop-part.part-index (omega arith) c.loop-part.invariant)
