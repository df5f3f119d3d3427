-- The types so far stand in front of those of the parameters that are left.
use Rattle.std.proofs.Common.{◌≡◌, ◌++◌, drop}
use Rattle.oxt_facts.specs.Told.{types_view}
use Rattle.oxt_fields.specs.Rules.{rules_view}
use Rattle.oxt_told.specs.Metadata.{types_told}
use Rattle.oxt_tree.specs.View.{docs_in}
use Rattle.oxt_told.proofs.metadata.push_types.Given as goal

abbrev pub invariant-loop-parameter : goal.invariant-loop-parameter
invariant-loop-parameter l =
    types_view l.initial.types ++ types_told (rules_view l.source.rules) (docs_in l.parameters)
    ≡ types_view l.types ++ types_told (rules_view l.source.rules) (docs_in (drop l.parameter-index l.parameters))
