-- The declaration ends the search.
use Rattle.std.proofs.Common.{◌∙◌, sym}
use Rattle.oxt_enum_checks.proofs.Clashes.{clash_found}
use Rattle.oxt_enum_checks.proofs.clash.first_clashing.Goals as goal

pub returns-then-ends_with : goal.returns-then-ends_with
returns-then-ends_with c =
    clash_found c.loop-i.after_base c.args.emitted.now c.split_at.result.1.now c.loop-i.i _ c.clash_with-clash.result c.loop-i-test.true
    c.split_at.ensures.back c.clash_with-clash.ensures (sym c.ends_with.ensures ∙ c.if-ends_with.true)
    ∙ sym c.loop-i.invariant
