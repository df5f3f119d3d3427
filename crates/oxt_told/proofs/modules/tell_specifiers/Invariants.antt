-- What is told so far, and then of the specifiers that are left.
use Rattle.std.proofs.Common.{◌≡◌, drop}
use Rattle.oxt_options.specs.Facts.{is_in}
use Rattle.oxt_told.specs.Modules.{specifiers_told}
use Rattle.oxt_told.specs.Source.{all_told}
use Rattle.oxt_tree.specs.View.{docs_in}
use Rattle.oxt_told.proofs.modules.tell_specifiers.Given as goal

abbrev pub invariant-loop-specifier : goal.invariant-loop-specifier
invariant-loop-specifier l = all_told l.initial.told (specifiers_told (is_in l.plan.kept) (docs_in l.specifiers)) ≡ all_told l.told (specifiers_told (is_in l.plan.kept) (docs_in (drop l.specifier-index l.specifiers)))
