-- One more text, with the constant behind it.
use Rattle.std.proofs.Common.{sym, ◌∙◌, ap, option_map, string_bytes}
use Rattle.oxt_constant.proofs.Templates.{text_next}
use Rattle.oxt_constant.specs.Evaluated.{constant_views, template_text}
use Rattle.oxt_tree.specs.View.{docs_in}
use Rattle.oxt_constant.proofs.parts.template_text.Goals as goal

pub loop-i-preserved : goal.loop-i-preserved
loop-i-preserved c =
    text_next (template_text (docs_in c.args.quasis.now) (constant_views c.args.values.now)) c.args.quasis.now c.args.values.now c.loop-i.i c.index-quasis-i.result
    (string_bytes c.loop-i.text) (string_bytes c.push_piece.new.text) c.in-Some.cooked.now c.loop-i-test.true c.index-quasis-i.is
    (sym c.cooked.ensures ∙ ap (option_map (λ x. x.now)) c.in-Some.is) c.in_ok-push_piece-in-Some.ensures c.loop-i.invariant
