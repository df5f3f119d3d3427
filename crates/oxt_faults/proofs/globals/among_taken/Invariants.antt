-- None of the parameters so far has one, so that the first is among those that are left.
use Rattle.std.proofs.Common.{◌≡◌, drop}
use Rattle.oxt_faults.specs.Globals.{among_taken}
use Rattle.oxt_fields.specs.Rules.{rules_view}
use Rattle.oxt_tree.specs.View.{docs_in}
use Rattle.oxt_faults.proofs.globals.among_taken.Given as goal

abbrev pub invariant-loop-parameter : goal.invariant-loop-parameter
invariant-loop-parameter l =
    among_taken (rules_view l.rules) l.globals (docs_in l.parameters)
    ≡ among_taken (rules_view l.rules) l.globals (docs_in (drop l.parameter-index l.parameters))
