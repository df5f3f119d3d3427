use Rattle.std.proofs.Common.{◌≡◌, OnOk, subst}
use Rattle.oxt_fields.specs.Rules.{rules_view}
use Rattle.oxt_told.specs.Classes.{parts_told}
use Rattle.oxt_told.specs.Source.{all_told}
use Rattle.oxt_told.specs.declared.lowering.Lowering.{Lowering}
use Rattle.oxt_tree.specs.View.{node_doc}
use Rattle.oxt_told.proofs.classes.tell_class.Goals as goal

pub returns : goal.returns
returns c =
    let source = c.args.source.now in
    let class = c.args.class.now in
    subst (λ (w : Lowering). OnOk c.tell_parts.result (c.tell_parts.new.told ≡ all_told c.args.told.now (parts_told source.scoping.now (rules_view source.rules) w class.id.0 (node_doc class)))) c.lowering_of.ensures c.tell_parts.ensures
