-- Fields are compared by their numbers.
use Rattle.std.proofs.Common.{◌∙◌}
use denote.Enum.Bare.{sameb, same_true, true_same}
use Rattle.oxt_grammar.specs.contracts.field.Field.{the_type}
use Rattle.oxt_grammar.proofs.OneField.{same_by_key}
use Rattle.oxt_grammar.proofs.field.Field.is.Goals as goal

pub returns : goal.returns
returns c =
    let f = c.args.self in
    let g = c.args.other in
    c.eq.ensures ∙ same_by_key f g (sameb the_type f g) (same_true the_type tt f g) (true_same the_type f g)
