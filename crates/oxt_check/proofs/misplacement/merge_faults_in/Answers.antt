-- The declarations are those that the survey has; where no block occurs, nothing is wrong with one.
use Rattle.std.proofs.Common.{◌≡◌, ◌∙◌, sym, List, IfOk, option_map, subst}
use Rattle.oxt_check.proofs.Absences.{no_block_clashes, no_block_late}
use Rattle.oxt_enum_checks.specs.Clash.{clash_by}
use Rattle.oxt_enum_checks.specs.LateBase.{late_by}
use Rattle.oxt_enum_checks.specs.Places.{Placed}
use Rattle.oxt_enum_checks.specs.declared.blocks.Block.{Block}
use Rattle.oxt_tree.specs.View.{node_doc}
use Rattle.oxt_check.proofs.misplacement.merge_faults_in.Goals as goal

subst2 : {A B : Type 0} (P : A → B → Type 0) {a a' : A} {b b' : B} → a ≡ a' → b ≡ b' → P a b → P a' b'
subst2 P {a} {a'} {b} {b'} e h x = subst (λ y. P a' y) h (subst (λ y. P y b) e x)

pub returns-then-has_block-clause-late_base : goal.returns-then-has_block-clause-late_base
returns-then-has_block-clause-late_base c =
    subst2 (λ (p : Placed) (bs : List Block). IfOk c.merge_faults.result (λ f. option_map (λ node. node.0) f.late_base ≡ late_by p c.args.scoping.now bs))
    (c.args.survey.now.placed (sym c.has_block.ensures ∙ c.if-has_block.true)) (c.as_slice.ensures.value ∙ c.args.survey.now.named) c.merge_faults.ensures.late_base

pub returns-then-has_block-clause-clash : goal.returns-then-has_block-clause-clash
returns-then-has_block-clause-clash c =
    subst2 (λ (p : Placed) (bs : List Block). IfOk c.merge_faults.result (λ f. option_map (λ node. node.0) f.clash ≡ clash_by p c.args.scoping.now bs))
    (c.args.survey.now.placed (sym c.has_block.ensures ∙ c.if-has_block.true)) (c.as_slice.ensures.value ∙ c.args.survey.now.named) c.merge_faults.ensures.clash

pub returns-else-has_block-clause-late_base : goal.returns-else-has_block-clause-late_base
returns-else-has_block-clause-late_base c = no_block_late c.args.scoping.now (node_doc c.args.survey.now.program.now) (sym c.has_block.ensures ∙ c.if-has_block.false)

pub returns-else-has_block-clause-clash : goal.returns-else-has_block-clause-clash
returns-else-has_block-clause-clash c = no_block_clashes c.args.scoping.now (node_doc c.args.survey.now.program.now) (sym c.has_block.ensures ∙ c.if-has_block.false)
