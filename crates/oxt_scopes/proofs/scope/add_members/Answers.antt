-- The member at the index is put in front of those behind it.
use Rattle.std.proofs.Common.{◌-◌, arith, subst, sym}
use Rattle.std.specs.HashMap.{Updates}
use Rattle.std.specs.Prelude.{Some}
use Rattle.oxt_scopes.proofs.Tables.{members_more, same_pairs}
use Rattle.oxt_declares.specs.declared.declaration.Declaration.{Declaration}
use Rattle.oxt_scopes.proofs.scope.add_members.Goals as goal

pub loop-i-preserved : goal.loop-i-preserved
loop-i-preserved c =
    let put = subst (λ (d : Declaration). Updates same_pairs c.loop-i.blocks c.insert.new.self (c.args.enum_name, d.name) (Some c.args.number)) (sym c.index-members-i.is) c.in_ok-insert.ensures.updates in
    record {
      within = omega arith;
      so_far = members_more c.args.members.now c.loop-i.i (c.loop-i.i - 1) c.index-members-i.result c.args.enum_name c.args.number _ c.loop-i.blocks c.insert.new.self (omega arith) (omega arith) c.index-members-i.is put c.loop-i.invariant.so_far;
    }
