-- The reference is there, and as many symbols.
use Rattle.std.proofs.Common.{◌∙◌, [], ◌∷◌, ◌++◌, true, ap, arith}
use Rattle.oxt_scoping.specs.declared.entry.Slot.{Slot}
use Rattle.oxt_scoping.proofs.Sound.{sound_meant, sound_reference, table_of}
use Rattle.oxt_scoping.proofs.scoping.Scoping.create_reference.Goals as goal

pub invariant_of-self-2 : goal.invariant_of-self-2
invariant_of-self-2 c =
    let slot : Slot = record { reference = record { node = c.args.node; symbol = c.args.symbol; flags = c.args.flags }; is_live = true } in
    sound_reference _ c.args.node.0 (record { 0 = c.len.result }) slot c.push_reserved.new.list.items c.put_at.new.table.entries
    (sound_meant (table_of c.self.inside) (record { 0 = c.len.result }) c.args.symbol c.refer_in.new.symbols.items c.self.invariant c.in_default.ensures.pushed)
    (omega (arith, c.len.ensures, c.self.inside.references.ok.0))
    (c.push_reserved.ensures ∙ ap (λ rs. rs ++ slot ∷ []) c.in_ok-reserve.ensures.items) c.in_ok-before.ensures.put
