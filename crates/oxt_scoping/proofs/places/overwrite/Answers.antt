use Rattle.std.proofs.Common.{◌∙◌, ap, sym}
use Rattle.std.specs.Option.{option_copied_mut}
use Rattle.oxt_scoping.proofs.Tables.{nothing_overwritten}
use Rattle.oxt_scoping.proofs.places.overwrite.Goals as goal

pub returns-in_default : goal.returns-in_default
returns-in_default g c =
    nothing_overwritten c.args.node.0 c.args.value c.args.table.now.entries c.get_mut.follows.lender-at-none.entries
    (ap (λ o. option_copied_mut o) (sym c.in_default.is) ∙ c.get_mut.ensures.value) (ap (λ m. m.entries) c.get_mut.follows.holds-at-none)
