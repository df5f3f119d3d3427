-- There are as many references and symbols.
use Rattle.std.proofs.Common.{◌∙◌, ap, length}
use Rattle.oxt_scoping.proofs.Sound.{length_changed, sound_forgotten, sound_references, table_of}
use Rattle.oxt_scoping.proofs.scoping.Scoping.delete_reference.Goals as goal

pub invariant_of-self : goal.invariant_of-self
invariant_of-self c =
    sound_references _ c.delete_in-symbol.new.slots.items
    (sound_forgotten (table_of c.self.inside) c.args.reference c.delete_in-symbol.result c.forget_in.new.symbols.items c.self.invariant c.forget_in.ensures)
    (ap length c.delete_in-symbol.ensures.deleted ∙ length_changed _ c.self.inside.references.items c.args.reference.0)
