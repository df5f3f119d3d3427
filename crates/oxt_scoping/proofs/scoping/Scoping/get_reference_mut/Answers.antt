-- What is lent is that part, and the table has what is left behind it.
use Rattle.std.proofs.Common.{◌<◌, length, refl, subst, sym}
use Rattle.oxt_scoping.specs.Scoped.{Scoped}
use Rattle.oxt_scoping.proofs.Lent.{live_within, reference_lent, reference_shown}
use Rattle.oxt_scoping.proofs.Sound.{table_of}
use Rattle.oxt_scoping.proofs.scoping.Scoping.get_reference_mut.Goals as goal

pub returns : goal.returns
returns c =
    let within : c.args.reference.0 < length c.self.inside.references.items = subst (λ (s : Scoped). c.args.reference.0 < length s.references) (sym c.self.view_is) (live_within _ c.args.reference.0 c.requires) in (
      (refl, λ w. reference_lent (table_of c.self.inside) c.args.self.now c.args.reference.0 c.index_mut-slot.result.now w c.self.view_is within c.index_mut-slot.ensures.value),
      record { writes_back = tt; value = reference_shown (table_of c.self.inside) c.args.self.now c.args.reference.0 c.index_mut-slot.result.now c.self.view_is within c.index_mut-slot.ensures.value c.requires },
    )
