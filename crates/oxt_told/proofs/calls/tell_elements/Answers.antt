use Rattle.std.proofs.Common.{◌∙◌, arith}
use Rattle.oxt_fields.specs.Rules.{rules_view}
use Rattle.oxt_told.proofs.Callers.{element_more, takers_left}
use Rattle.oxt_told.specs.Calls.{common_view}
use Rattle.oxt_told.proofs.calls.tell_elements.Goals as goal

pub loop-element-preserved : goal.loop-element-preserved
loop-element-preserved c =
    let elements = c.args.elements.now in
    let i = c.loop-element.element-index in
    let behind = takers_left elements i c.element-item.result c.loop-element.left c.takers_behind-left.result (omega arith) c.element-item.is c.loop-element.invariant.left c.takers_behind-left.ensures in
    record {
      so_far = c.loop-element.invariant.so_far
          ∙ element_more (rules_view c.args.source.now.rules) (common_view c.args.shared.now) c.loop-element.told c.tell_element.new.told elements i c.element-item.result c.loop-element.waiting c.waits_behind-waiting.result c.is_last-is_last.result c.takers_behind-left.result
          (omega arith) c.element-item.is behind c.is_last-is_last.ensures c.in_ok-tell_element.ensures c.waits_behind-waiting.ensures;
      left = behind;
    }
