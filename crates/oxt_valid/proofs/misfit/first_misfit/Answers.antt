-- No place is found exactly where the tree fits.
use Rattle.std.proofs.Common.{string_bytes}
use Rattle.oxt_grammar.specs.declared.category.Category.TheVariants as category
use Rattle.oxt_grammar.specs.declared.context.Setting.TheVariants.{Elsewhere}
use Rattle.oxt_grammar.specs.declared.holds.Holds.TheVariants as holds
use Rattle.oxt_tree.specs.View.{node_doc}
use Rattle.oxt_valid.proofs.Decisions.{some_misfit, no_misfit}
use Rattle.oxt_valid.proofs.misfit.first_misfit.Goals as goal

pub returns-in_ok-from_string-in-Some-clause-fits :
    goal.returns-in_ok-from_string-in-Some-clause-fits
returns-in_ok-from_string-in-Some-clause-fits c =
    some_misfit (node_doc c.args.program.now) Elsewhere (holds.Node category.Program) (string_bytes c.in-Some.place) (rw c.in-Some.is at c.in_ok-place.ensures)

pub returns-in-None-clause-fits : goal.returns-in-None-clause-fits
returns-in-None-clause-fits c =
    no_misfit (node_doc c.args.program.now) Elsewhere (holds.Node category.Program) (rw c.in-None.is at c.in_ok-place.ensures)
