-- What is found is a symbol.
use Rattle.std.proofs.Common.{◌<◌, ◌≡◌, length, subst, sym, Some, Option, IfSome}
use Rattle.oxt_names.specs.declared.ids.SymbolId.{SymbolId}
use Rattle.oxt_scoping.specs.Scoped.{Scoped, found_within}
use Rattle.oxt_scoping.proofs.Sound.{found_live}
use Rattle.oxt_scoping.proofs.scoping.Scoping.find_binding.Goals as goal

pub returns-clause-live : goal.returns-clause-live
returns-clause-live c =
    let at : c.find_within.result ≡ found_within c.len.result c.self.inside.scopes.items c.args.name.now (Some c.args.scope) = rw c.as_slice.ensures.value at c.find_within.ensures in
    subst (λ (s : Scoped). IfSome c.find_within.result (λ (y : SymbolId). y.0 < length s.symbols)) c.self.view_is
    (subst (λ (o : Option SymbolId). IfSome o (λ (y : SymbolId). y.0 < length c.self.inside.symbols.items)) (sym at)
    (found_live c.len.result c.self.inside.scopes.items _ _ c.args.name.now (Some c.args.scope) c.self.invariant.scopes))
