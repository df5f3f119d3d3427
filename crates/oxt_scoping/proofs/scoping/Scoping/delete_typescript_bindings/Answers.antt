-- The scopes bind less.
use Rattle.oxt_scoping.proofs.Sound.{sound_values, table_of}
use Rattle.oxt_scoping.proofs.scoping.Scoping.delete_typescript_bindings.Goals as goal

pub invariant_of-self : goal.invariant_of-self
invariant_of-self c = sound_values (table_of c.self.inside) c.keep_values_in.new.scopes.items c.self.invariant (rw c.as_slice.ensures.value at c.keep_values_in.ensures)
