use Rattle.std.proofs.Common.{◌∙◌, ap, ◌||◌, arith}
use Rattle.oxt_fields.specs.Rules.{rules_view}
use Rattle.oxt_names.specs.Made.{is_among}
use Rattle.oxt_told.proofs.Taking.{own_more}
use Rattle.oxt_told.specs.Classes.{is_name, is_own_name}
use Rattle.oxt_tree.specs.View.{docs_in}
use Rattle.oxt_told.proofs.properties.own_names.Goals as goal

pub loop-element-preserved : goal.loop-element-preserved
loop-element-preserved c =
    own_more (rules_view c.args.rules) (is_own_name (rules_view c.args.rules) (docs_in c.args.elements.now)) c.args.elements.now c.loop-element.element-index c.element-item.result c.loop-element.names c.note.new.names
    (omega arith) c.element-item.is
    (λ t. c.in_ok-note.ensures t ∙ ap (λ o. is_among t c.loop-element.names || is_name o t) c.own_name.ensures)
    c.loop-element.invariant
