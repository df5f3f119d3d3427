-- Where no block occurs, nothing is said of the declarations.
use Rattle.std.proofs.Common.{◌∙◌, sym, ap, true≢false}
use Rattle.oxt_check.specs.Occurring.{has_block_among}
use Rattle.oxt_check.proofs.survey.places_of.Goals as goal

pub returns-then-not-has_block_among : goal.returns-then-not-has_block_among
returns-then-not-has_block_among c =
    λ h. absurd (true≢false (sym h ∙ ap has_block_among (sym c.requires) ∙ sym c.has_block_among.ensures ∙ c.if-not-has_block_among.true))

pub returns : goal.returns
returns c = λ h. c.in_ok-places.ensures
