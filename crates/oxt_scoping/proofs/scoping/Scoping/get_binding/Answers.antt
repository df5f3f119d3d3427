-- What a scope binds is a symbol.
use Rattle.std.proofs.Common.{◌<◌, ◌≡◌, length, subst, Some, IfSome}
use Rattle.std.specs.Prelude.{slice_get}
use Rattle.oxt_names.specs.declared.ids.SymbolId.{SymbolId}
use Rattle.oxt_scoping.specs.Scoped.{Scoped}
use Rattle.oxt_scoping.proofs.Sound.{binding_live}
use Rattle.oxt_scoping.proofs.scoping.Scoping.get_binding.Goals as goal

pub returns-clause-live : goal.returns-clause-live
returns-clause-live c =
    let at : slice_get c.self.inside.scopes.items c.args.scope.0 ≡ Some c.scope_at.result.now = rw c.as_slice.ensures.value at c.scope_at.ensures in
    subst (λ (s : Scoped). IfSome c.binding.result (λ (y : SymbolId). y.0 < length s.symbols)) c.self.view_is
    (binding_live c.self.inside.scopes.items _ _ c.args.scope.0 c.scope_at.result.now c.args.name.now c.binding.result at c.binding.ensures c.self.invariant.scopes)
