-- A node of a kind that shows no sign is not erased by itself.
use Rattle.std.proofs.Common.{◌∙◌, ap, sym}
use Rattle.oxt_scopes.proofs.Unsigned.{stays}
use Rattle.oxt_scopes.specs.Signs.{is_asked}
use Rattle.oxt_scopes.proofs.standing.may_be_erased.Goals as goal

pub returns-else-is_asked : goal.returns-else-is_asked
returns-else-is_asked c = λ none.
    stays c.args.kind c.rows.result.now c.rows.ensures
    (sym c.is_erased_kind.ensures ∙ c.if-is_erased_kind.false) (ap is_asked (sym c.role_of.ensures) ∙ sym c.is_asked.ensures ∙ c.if-is_asked.false) (sym c.has_sign.ensures ∙ none)
