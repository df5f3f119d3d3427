-- The scope that binds the symbol is there.
use Rattle.std.proofs.Common.{◌<◌, ◌≡◌, ◌∙◌, [], ◌∷◌, ◌++◌, ap, arith, length, subst, sym}
use Rattle.std.proofs.Common.{string_bytes}
use Rattle.oxt_scoping.specs.Entries.{SymbolData}
use Rattle.oxt_scoping.specs.Scoped.{Scoped}
use Rattle.oxt_scoping.proofs.Sound.{sound_symbol, table_of}
use Rattle.oxt_scoping.proofs.scoping.Scoping.declare_symbol.Goals as goal

pub invariant_of-self-2 : goal.invariant_of-self-2
invariant_of-self-2 c =
    let outer : c.args.scope.0 < length c.self.inside.scopes.items = subst (λ (s : Scoped). c.args.scope.0 < length s.scopes) (sym c.self.view_is) c.requires in
    let scope : c.in_ok-entry.entry.scope ≡ c.args.scope = ap (λ (y : SymbolData). y.scope) c.in_ok-entry.ensures in
    sound_symbol (table_of c.self.inside) c.args.declaration.node.0 (record { 0 = c.len.result }) (string_bytes c.in_ok-key.key) c.in_ok-entry.entry c.bind_in.new.scopes.items c.push_reserved.new.list.items c.put_at.new.table.entries c.self.invariant
    (rw scope outer) (ap (λ (y : SymbolData). y.bodies) c.in_ok-entry.ensures) (omega (arith, c.len.ensures, c.self.inside.symbols.ok.0)) (rw scope c.in_default.ensures.bound)
    (c.push_reserved.ensures ∙ ap (λ ys. ys ++ c.in_ok-entry.entry ∷ []) c.in_ok-reserve.ensures.items) c.in_ok-before.ensures.put
