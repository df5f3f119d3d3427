-- The blocks are those of the declarations that the survey has; where no block occurs, none is first.
use Rattle.std.proofs.Common.{◌≡◌, ◌∙◌, sym, List, IfOk, ap, subst}
use Rattle.oxt_check.proofs.Absences.{no_block_first}
use Rattle.oxt_enum_checks.specs.First.{first_by}
use Rattle.oxt_enum_checks.specs.Places.{Placed, places_of}
use Rattle.oxt_enum_checks.specs.declared.blocks.Block.{Block}
use Rattle.oxt_options.specs.Lists.{numbers_in}
use Rattle.oxt_tree.specs.View.{node_doc}
use Rattle.oxt_check.proofs.check_program.first_of.Goals as goal

pub returns-then-has_block : goal.returns-then-has_block
returns-then-has_block c =
    subst (λ (bs : List Block). IfOk c.first_blocks.result (λ nodes. numbers_in nodes.items ≡ first_by (places_of (node_doc c.args.survey.now.program.now)) c.args.scoping.now bs)) (c.as_slice.ensures.value ∙ c.args.survey.now.named)
    (subst (λ (p : Placed). IfOk c.first_blocks.result (λ nodes. numbers_in nodes.items ≡ first_by p c.args.scoping.now c.as_slice.result.now))
    (c.args.survey.now.placed (sym c.has_block.ensures ∙ c.if-has_block.true)) c.first_blocks.ensures)

pub returns-else-has_block : goal.returns-else-has_block
returns-else-has_block c =
    ap numbers_in c.new.ensures.items ∙ no_block_first c.args.scoping.now (node_doc c.args.survey.now.program.now) (sym c.has_block.ensures ∙ c.if-has_block.false)
