-- One reference more is none, or is the first.
use Rattle.std.proofs.Common.{◌∙◌, sym, rules}
use Rattle.oxt_modules.proofs.Marks.{first_here, first_past}
use Rattle.oxt_modules.specs.Marked.{is_use}
use Rattle.oxt_modules.proofs.marked.first_use.Goals as goal

pub returns-then-is_value_use : goal.returns-then-is_value_use
returns-then-is_value_use c =
    first_here (is_use c.args.scoping.now c.args.marked.now) c.args.references.now c.loop-place.place _ c.loop-place.invariant c.loop-place-test.true (search rules) (sym c.is_value_use.ensures ∙ c.if-is_value_use.true)

pub loop-place-preserved : goal.loop-place-preserved
loop-place-preserved c =
    first_past (is_use c.args.scoping.now c.args.marked.now) c.args.references.now c.loop-place.place _ c.loop-place.invariant c.loop-place-test.true (search rules) (sym c.is_value_use.ensures ∙ c.if-is_value_use.false)
