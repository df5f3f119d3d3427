use Rattle.std.proofs.Common.{◌≡◌, ◌∙◌, sym, subst, OnOk}
use Rattle.oxt_resolve.specs.Resolved.{declared_as}
use Rattle.oxt_resolve.proofs.symbols.declare_in.Goals as goal

pub returns-in-Some : goal.returns-in-Some
returns-in-Some c = subst (λ o. OnOk c.declare_again.result (c.declare_again.new.table ≡ declared_as c.args.scope c.args.name.now c.args.declaration o c.args.table.now)) (sym c.in-Some.is ∙ c.get_binding.ensures.bound) c.declare_again.ensures

pub returns-in-None : goal.returns-in-None
returns-in-None c = subst (λ o. OnOk c.declare_first.result (c.declare_first.new.table ≡ declared_as c.args.scope c.args.name.now c.args.declaration o c.args.table.now)) (sym c.in-None.is ∙ c.get_binding.ensures.bound) c.declare_first.ensures
