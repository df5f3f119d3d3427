-- Kinds are compared by their numbers.
use Rattle.std.proofs.Common.{◌∙◌}
use denote.Enum.Bare.{sameb, same_true, true_same}
use Rattle.oxt_grammar.specs.contracts.kind.Kind.{the_type}
use Rattle.oxt_grammar.proofs.OneKind.{same_by_name}
use Rattle.oxt_grammar.proofs.kind.Kind.is.Goals as goal

pub returns : goal.returns
returns c =
    let j = c.args.self in
    let k = c.args.other in
    c.eq.ensures ∙ same_by_name j k (sameb the_type j k) (same_true the_type tt j k) (true_same the_type j k)
