-- What a table has is the number of a symbol.
use Rattle.std.proofs.Common.{◌<◌, length, nat_eq, subst, sym, Option, IfSome}
use Rattle.oxt_names.specs.declared.ids.SymbolId.{SymbolId}
use Rattle.oxt_scoping.specs.Scoped.{Scoped}
use Rattle.oxt_scoping.proofs.Sound.{each_lookup}
use Rattle.oxt_scoping.proofs.scoping.Scoping.symbol_of.Goals as goal

pub returns-clause-live : goal.returns-clause-live
returns-clause-live c =
    subst (λ (s : Scoped). IfSome c.at_node.result (λ (x : SymbolId). x.0 < length s.symbols)) c.self.view_is
    (subst (λ (o : Option SymbolId). IfSome o (λ (x : SymbolId). x.0 < length c.self.inside.symbols.items)) (sym c.at_node.ensures)
    (each_lookup (λ (x : SymbolId). x.0 < length c.self.inside.symbols.items) (nat_eq c.args.node.0) c.self.inside.declared.entries c.self.invariant.declared))
