-- The scope around it is there, and the node opens it.
use Rattle.std.proofs.Common.{◌<◌, ◌∙◌, [], ◌∷◌, ◌++◌, ap, arith, length, subst, sym}
use Rattle.oxt_scoping.specs.Entries.{ScopeData}
use Rattle.oxt_scoping.specs.Scoped.{Scoped}
use Rattle.oxt_scoping.proofs.Sound.{sound_opened, table_of}
use Rattle.oxt_scoping.proofs.scoping.Scoping.open_scope.Goals as goal

pub invariant_of-self-2 : goal.invariant_of-self-2
invariant_of-self-2 c =
    sound_opened (table_of c.self.inside) c.args.node.0 (record { 0 = c.len.result }) c.new-entry.result c.args.parent c.push_reserved.new.list.items c.put_at.new.table.entries c.self.invariant
    (ap (λ (x : ScopeData). x.parent) c.new-entry.ensures) (ap (λ (x : ScopeData). x.bindings) c.new-entry.ensures)
    (subst (λ (s : Scoped). c.args.parent.0 < length s.scopes) (sym c.self.view_is) c.requires)
    (omega (arith, c.len.ensures, c.self.inside.scopes.ok.0)) (c.push_reserved.ensures ∙ ap (λ xs. xs ++ c.new-entry.result ∷ []) c.in_ok-reserve.ensures.items) c.in_ok-put_at.ensures.put
