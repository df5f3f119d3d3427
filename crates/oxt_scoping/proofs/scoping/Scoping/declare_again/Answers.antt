-- The symbol is there.
use Rattle.std.proofs.Common.{◌<◌, [], ◌∷◌, ◌++◌, length, refl, subst, sym}
use Rattle.oxt_scoping.specs.Entries.{SymbolData}
use Rattle.oxt_scoping.specs.Scoped.{Scoped}
use Rattle.oxt_scoping.proofs.Sound.{sound_declared, table_of}
use Rattle.oxt_scoping.proofs.scoping.Scoping.declare_again.Goals as goal

pub invariant_of-self-in_default : goal.invariant_of-self-in_default
invariant_of-self-in_default c =
    sound_declared (table_of c.self.inside) (λ (y : SymbolData). record y { declarations = y.declarations ++ c.args.declaration ∷ [] }) c.args.symbol c.args.declaration.node.0 c.declare_in.new.symbols.items c.put_at.new.table.entries c.self.invariant
    (λ y. refl) (λ y. refl) (subst (λ (s : Scoped). c.args.symbol.0 < length s.symbols) (sym c.self.view_is) c.requires) c.in_default.ensures.pushed c.in_ok-before.ensures.put
