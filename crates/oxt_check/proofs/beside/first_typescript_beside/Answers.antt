-- No place is found exactly where the tree is plain beside the wrappers.
use Rattle.std.proofs.Common.{string_bytes}
use Rattle.oxt_grammar.specs.declared.category.Category.TheVariants as category
use Rattle.oxt_grammar.specs.declared.holds.Holds.TheVariants as holds
use Rattle.oxt_check.specs.Targets.{is_listed}
use Rattle.oxt_tree.specs.View.{node_doc}
use Rattle.oxt_check.proofs.Decisions.{some_typescript, no_typescript}
use Rattle.oxt_check.proofs.beside.first_typescript_beside.Goals as goal

pub returns-in_ok-from_string-in-Some-clause-plain :
    goal.returns-in_ok-from_string-in-Some-clause-plain
returns-in_ok-from_string-in-Some-clause-plain c =
    some_typescript (node_doc c.args.program.now) (holds.Node category.Program) (is_listed c.args.targets.now) (string_bytes c.in-Some.place) (rw c.in-Some.is at c.in_ok-place.ensures)

pub returns-in-None-clause-plain : goal.returns-in-None-clause-plain
returns-in-None-clause-plain c =
    no_typescript (node_doc c.args.program.now) (holds.Node category.Program) (is_listed c.args.targets.now) (rw c.in-None.is at c.in_ok-place.ensures)
