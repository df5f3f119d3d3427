-- What is left passes the name on exactly where the whole does.
use Rattle.std.proofs.Common.{◌≡◌, drop}
use Rattle.oxt_tree.specs.View.{docs_in}
use Rattle.oxt_forms.specs.Made.{pass_first}
use Rattle.oxt_forms.proofs.passing.pass_first.Given as goal

abbrev pub invariant-loop-i : goal.invariant-loop-i
invariant-loop-i l = pass_first l.facts l.name (docs_in l.parts) ≡ pass_first l.facts l.name (docs_in (drop l.i l.parts))
