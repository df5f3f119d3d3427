-- A scope binds less.
use Rattle.oxt_scoping.proofs.Sound.{sound_unbound, table_of}
use Rattle.oxt_scoping.proofs.scoping.Scoping.remove_binding.Goals as goal

pub invariant_of-self : goal.invariant_of-self
invariant_of-self c = sound_unbound (table_of c.self.inside) c.args.scope.0 c.args.name.now c.unbind_in.new.scopes.items c.self.invariant c.unbind_in.ensures
