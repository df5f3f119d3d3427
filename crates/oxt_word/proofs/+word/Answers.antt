use Rattle.std.proofs.Common.{◌≡◌, ◌∙◌, ◌++◌, refl, sym, ap, subst, arith, OnOk}
use Rattle.oxt_grammar.specs.Keys.{key_of}
use Rattle.oxt_word.proofs.Loops.{field_none, field_past, field_some, no_more_rows, one_turn}
use Rattle.oxt_facts.specs.Entry.{entries}
use Rattle.oxt_tree.specs.View.{docs_in}
use Rattle.oxt_facts.specs.Inside.{known_or}
use Rattle.oxt_items.specs.RuleOf.{rule_of}
use Rattle.oxt_items.specs.Read.{node_word}
use Rattle.oxt_word.specs.Word.{all_fields, each_field}
use Rattle.oxt_word.proofs.+word.Goals as goal

pub word::put_node-returns-in-Some : goal.word::put_node-returns-in-Some
word::put_node-returns-in-Some t c =
    let same = ap (known_or c.args.facts.now) (sym c.in-Some.is) ∙ c.in_ok-inner.ensures in
    subst (λ f. OnOk c.put_known.result (entries c.put_known.new.out.items ≡ entries c.args.out.now.items ++ node_word f c.args.way (rule_of c.args.node.now.kind) c.args.node.now.kind c.args.node.now.id.0 (docs_in c.args.node.now.parts.items) (each_field f c.args.node.now) (all_fields f c.args.node.now))) same c.put_known.ensures

pub word::put_node-returns-in-None : goal.word::put_node-returns-in-None
word::put_node-returns-in-None t c =
    let same = ap (known_or c.args.facts.now) (sym c.in-None.is) ∙ c.in_ok-inner.ensures in
    subst (λ f. OnOk c.put_known-in-None.result (entries c.put_known-in-None.new.out.items ≡ entries c.args.out.now.items ++ node_word f c.args.way (rule_of c.args.node.now.kind) c.args.node.now.kind c.args.node.now.id.0 (docs_in c.args.node.now.parts.items) (each_field f c.args.node.now) (all_fields f c.args.node.now))) same c.put_known-in-None.ensures

pub word::put_field-returns-in-Some-get : goal.word::put_field-returns-in-Some-get
word::put_field-returns-in-Some-get t c =
    let same = field_some c.args.facts.now (key_of c.args.field) c.args.node.now.kind c.rows.result.now c.args.node.now.parts.items c.deref.result.now c.in-Some.place c.in-Some-get.part.now c.args.way c.rows.ensures (sym c.in-Some.is ∙ c.place_of.ensures) c.deref.ensures.value c.in-Some-get.ensures.lookup.3.0 c.in-Some-get.ensures.lookup.1 in
    subst (λ v. OnOk c.put_part.result (entries c.put_part.new.out.items ≡ entries c.args.out.now.items ++ v)) same c.put_part.ensures

pub word::put_field-returns-in-None-get : goal.word::put_field-returns-in-None-get
word::put_field-returns-in-None-get t c =
    let same = field_past c.args.facts.now (key_of c.args.field) c.args.node.now.kind c.rows.result.now c.args.node.now.parts.items c.deref.result.now c.in-Some.place c.args.way c.rows.ensures (sym c.in-Some.is ∙ c.place_of.ensures) c.deref.ensures.value c.in-None-get.ensures.lookup.3 in
    subst (λ v. OnOk c.put_lone.result (entries c.put_lone.new.out.items ≡ entries c.args.out.now.items ++ v)) same c.put_lone.ensures

pub word::put_field-returns-in-None : goal.word::put_field-returns-in-None
word::put_field-returns-in-None t c =
    let same = field_none c.args.facts.now (key_of c.args.field) c.args.node.now.kind c.rows.result.now c.args.node.now.parts.items c.args.way c.rows.ensures (sym c.in-None.is ∙ c.place_of.ensures) in
    subst (λ v. OnOk c.put_lone-in-None.result (entries c.put_lone-in-None.new.out.items ≡ entries c.args.out.now.items ++ v)) same c.put_lone-in-None.ensures

pub word::put_fields-returns : goal.word::put_fields-returns
word::put_fields-returns t c = no_more_rows c.args.facts.now _ c.args.rows.now c.args.parts.now c.loop-i.i c.args.way _ (omega arith) c.loop-i.invariant

pub word::put_turns-loop-i-preserved : goal.word::put_turns-loop-i-preserved
word::put_turns-loop-i-preserved t c = one_turn c.args.facts.now _ c.args.parts.now c.loop-i.i c.index-parts-i.result _ c.args.way _ _ (omega arith) c.index-parts-i.is refl c.in_ok-put_turn.ensures c.loop-i.invariant
