-- The marks are those of the tree.
use Rattle.std.proofs.Common.{◌≡◌, ◌∙◌, ap, IfOk, subst}
use Rattle.oxt_resolve.specs.Marks.{flags_in, mark_views, marked}
use Rattle.oxt_resolve.proofs.marks.Marks.of.Goals as goal

pub returns : goal.returns
returns c =
    let same = ap (λ ms. marked (mark_views ms)) c.as_slice.ensures.value ∙ ap marked c.in_ok-marks.ensures in
    subst (λ f. IfOk c.new.result (λ m. flags_in m ≡ f)) same c.new.ensures
