-- What a table has is the number of a scope.
use Rattle.std.proofs.Common.{◌<◌, length, nat_eq, subst, sym, Option, IfSome}
use Rattle.oxt_names.specs.declared.ids.ScopeId.{ScopeId}
use Rattle.oxt_scoping.specs.Scoped.{Scoped}
use Rattle.oxt_scoping.proofs.Sound.{each_lookup}
use Rattle.oxt_scoping.proofs.scoping.Scoping.scope_of.Goals as goal

pub returns-clause-live : goal.returns-clause-live
returns-clause-live c =
    subst (λ (s : Scoped). IfSome c.at_node.result (λ (x : ScopeId). x.0 < length s.scopes)) c.self.view_is
    (subst (λ (o : Option ScopeId). IfSome o (λ (x : ScopeId). x.0 < length c.self.inside.scopes.items)) (sym c.at_node.ensures)
    (each_lookup (λ (x : ScopeId). x.0 < length c.self.inside.scopes.items) (nat_eq c.args.node.0) c.self.inside.opened.entries c.self.invariant.opened))
