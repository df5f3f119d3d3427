use Rattle.std.proofs.Common.{◌≡◌, Bool, IfOk, subst}
use Rattle.oxt_facts.specs.Told.{gaining_view}
use Rattle.oxt_fields.specs.Classes.{is_derived}
use Rattle.oxt_fields.specs.Rules.{rules_view}
use Rattle.oxt_told.specs.Classes.{gaining_of}
use Rattle.oxt_tree.specs.Doc.{Docs}
use Rattle.oxt_tree.specs.View.{docs_in, node_doc}
use Rattle.oxt_told.proofs.classes.class_gains.Goals as goal

pub returns : goal.returns
returns c =
    let source = c.args.source.now in
    let class = c.args.class.now in
    subst (λ (es : Docs). IfOk c.gaining_of.result (λ gains. gaining_view gains ≡ gaining_of source.scoping.now (rules_view source.rules) c.args.lowering class.id.0 (is_derived (node_doc class)) es)) c.elements_of.ensures
    (subst (λ (b : Bool). IfOk c.gaining_of.result (λ gains. gaining_view gains ≡ gaining_of source.scoping.now (rules_view source.rules) c.args.lowering class.id.0 b (docs_in c.elements_of.result.now))) c.is_derived.ensures c.gaining_of.ensures)
