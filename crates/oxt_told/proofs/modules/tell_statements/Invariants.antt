-- What is told so far, and then of the statements that are left.
use Rattle.std.proofs.Common.{◌≡◌, drop}
use Rattle.oxt_options.specs.Facts.{is_in}
use Rattle.oxt_told.specs.Modules.{statements_told}
use Rattle.oxt_told.specs.Source.{all_told}
use Rattle.oxt_tree.specs.View.{docs_in}
use Rattle.oxt_told.proofs.modules.tell_statements.Given as goal

abbrev pub invariant-loop-statement : goal.invariant-loop-statement
invariant-loop-statement l = all_told l.initial.told (statements_told (is_in l.plan.kept) l.all (docs_in l.statements)) ≡ all_told l.told (statements_told (is_in l.plan.kept) l.all (docs_in (drop l.statement-index l.statements)))
