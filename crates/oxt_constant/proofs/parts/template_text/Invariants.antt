-- The text so far stands before that of what is left.
use Rattle.std.proofs.Common.{◌≡◌, ◌++◌, drop, option_map, string_bytes}
use Rattle.oxt_constant.specs.Evaluated.{constant_views, template_text}
use Rattle.oxt_tree.specs.View.{docs_in}
use Rattle.oxt_constant.proofs.parts.template_text.Given as goal

abbrev pub invariant-loop-i : goal.invariant-loop-i
invariant-loop-i l = template_text (docs_in l.quasis) (constant_views l.values) ≡ option_map (λ rest. string_bytes l.text ++ rest) (template_text (docs_in (drop l.i l.quasis)) (constant_views (drop l.i l.values)))
