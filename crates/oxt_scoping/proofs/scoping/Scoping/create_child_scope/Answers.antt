-- The scope around it is there.
use Rattle.std.proofs.Common.{◌<◌, ap, length, subst, sym}
use Rattle.oxt_scoping.specs.Entries.{ScopeData}
use Rattle.oxt_scoping.specs.Scoped.{Scoped}
use Rattle.oxt_scoping.proofs.Sound.{sound_scope, table_of}
use Rattle.oxt_scoping.proofs.scoping.Scoping.create_child_scope.Goals as goal

pub invariant_of-self-2 : goal.invariant_of-self-2
invariant_of-self-2 c =
    sound_scope (table_of c.self.inside) c.new-entry.result c.args.parent c.push.new.self.items c.self.invariant
    (ap (λ (x : ScopeData). x.parent) c.new-entry.ensures) (ap (λ (x : ScopeData). x.bindings) c.new-entry.ensures)
    (subst (λ (s : Scoped). c.args.parent.0 < length s.scopes) (sym c.self.view_is) c.requires) c.in_ok-push.ensures.items
