-- The scope that is found is one of the table.
use Rattle.std.proofs.Common.{◌≡◌, ◌<◌, ◌∙◌, Some, ap, length, subst, sym}
use Rattle.std.specs.Prelude.{reverse}
use Rattle.oxt_ctx.specs.Context.{Context, innermost_scope}
use Rattle.oxt_ctx.proofs.Around.{found_live}
use Rattle.oxt_ctx.proofs.context.TraverseCtx.current_scope_id.Goals as goal

pub returns-in-Some-clause-live : goal.returns-in-Some-clause-live
returns-in-Some-clause-live c =
    let found : innermost_scope (reverse c.self.inside.around.items) ≡ Some c.in-Some.scope =
    ap (λ rs. innermost_scope (reverse rs)) (sym c.as_slice.ensures.value) ∙ (sym c.innermost_scope.ensures ∙ c.in-Some.is) in
    subst (λ (k : Context). c.in-Some.scope.0 < length k.scoping.scopes) c.self.view_is
    (found_live (length c.self.inside.scoping.scopes) (reverse c.self.inside.around.items) c.in-Some.scope found c.self.invariant)
