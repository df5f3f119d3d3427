-- The lists say what is known, each of its part.
use Rattle.std.proofs.Common.{◌≡◌, ap, IfOk, subst}
use Rattle.oxt_check.proofs.Checked.{listed_same}
use Rattle.oxt_options.specs.Facts.{Answers, Facts}
use Rattle.oxt_options.specs.Lists.{constants_in, numbers_in, pairs_in, types_in}
use Rattle.oxt_options.specs.Options.{transform_view}
use Rattle.oxt_tree.specs.View.{node_doc}
use Rattle.oxt_check.proofs.check_program.plan_by.Goals as goal

pub returns : goal.returns
returns c =
    subst (λ (f : Facts). IfOk c.new.result (λ plan. Answers plan f))
    (listed_same (numbers_in c.args.nodes.items) (numbers_in c.in_ok-lists.field-0.items) (numbers_in c.in_ok-lists-3.field-0.items)
    (constants_in c.in_ok-lists-2.field-0.items) (numbers_in c.in_ok-lists-6.field-0.items) (pairs_in c.empty-lists.result.aliases.items)
    (types_in c.in_ok-lists-4.field-0.items) (pairs_in c.in_ok-lists-5.field-0.items)
    c.named.result.now c.args.metadata.now c.args.kept.now c.args.scoping.now (node_doc c.args.survey.now.program.now) (transform_view c.args.options.now)
    c.requires c.in_ok-lists.ensures c.in_ok-lists-3.ensures c.named.ensures c.in_ok-lists-2.ensures c.in_ok-lists-6.ensures
    (ap (λ (f : Facts). f.aliases) c.empty-lists.ensures) c.in_ok-lists-4.ensures c.in_ok-lists-5.ensures)
    c.new.ensures
