use Rattle.oxt_names.specs.Constant.{constant_view}
use Rattle.oxt_scoping.proofs.Sound.{sound_value, table_of}
use Rattle.oxt_scoping.proofs.scoping.Scoping.set_enum_member_value.Goals as goal

pub invariant_of-self : goal.invariant_of-self
invariant_of-self c = sound_value (table_of c.self.inside) c.args.symbol.0 (constant_view c.args.value) c.set_value_in.new.symbols.items c.self.invariant c.set_value_in.ensures
