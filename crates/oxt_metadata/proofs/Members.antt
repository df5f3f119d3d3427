-- The members of an enum, one after the other.
use Rattle.std.proofs.Common.{◌≡◌, ◌∙◌, sym, ap, ℕ, ◌+◌, ◌<◌, ◌≤◌, List, length, drop, get_or}
use Rattle.oxt_metadata.specs.Shapes.{joined_shape, member_shape, shape_from}
use Rattle.oxt_metadata.specs.declared.shape.Shape.{Shape}
use Rattle.oxt_names.proofs.Lists.{drop_at, drop_end}
use Rattle.oxt_tree.specs.View.{docs_in, part_doc}
use Rattle.oxt_tree.specs.declared.tree.Part.{Part}

pub no_member : (p : Shape) (ms : List Part) (i : ℕ) → length ms ≤ i → shape_from p (docs_in (drop i ms)) ≡ p
no_member p ms i h = ap (λ rest. shape_from p (docs_in rest)) (drop_end ms i h)

pub one_member : (before after value : Shape) (ms : List Part) (i : ℕ) (m : Part) → i < length ms → m ≡ get_or ms i m
    → value ≡ member_shape (part_doc m) → after ≡ joined_shape before value
    → shape_from before (docs_in (drop i ms)) ≡ shape_from after (docs_in (drop (i + 1) ms))
one_member before after value ms i m h e has is =
    ap (λ rest. shape_from before (docs_in rest)) (drop_at ms i m h e)
    ∙ ap (λ p. shape_from p (docs_in (drop (i + 1) ms))) (sym (is ∙ ap (joined_shape before) has))

pub ruleset steps = (one_member, no_member)
