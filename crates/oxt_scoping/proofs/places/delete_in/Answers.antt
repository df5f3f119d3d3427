use Rattle.std.proofs.Common.{false, refl}
use Rattle.oxt_scoping.specs.declared.entry.Slot.{Slot}
use Rattle.oxt_scoping.proofs.Changes.{set_changed}
use Rattle.oxt_scoping.proofs.places.delete_in.Goals as goal

pub returns-clause-deleted : goal.returns-clause-deleted
returns-clause-deleted c =
    set_changed (λ (s : Slot). record s { is_live = false })
    c.args.slots.now.items c.args.reference.0 c.index_mut-slot.result.now _ c.requires c.index_mut-slot.ensures.value refl
