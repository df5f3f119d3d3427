-- A field is passed where nothing of TypeScript is in it.
use Rattle.std.proofs.Common.{◌≡◌, string_bytes, None}
use Rattle.oxt_check.proofs.Remainders.{field_found, field_passed, only_none}
use Rattle.oxt_check.specs.Targets.{is_listed}
use Rattle.oxt_check.proofs.beside.+beside.Goals as goal

pub first_in_fields-returns-in-Some : goal.first_in_fields-returns-in-Some
first_in_fields-returns-in-Some t c =
    field_found (is_listed c.args.targets.now) c.args.parts.now c.args.rows.now c.loop-i.i c.index-parts-i.result (string_bytes c.in-Some.place) _ c.loop-i-test.true c.index-parts-i.is c.loop-i.invariant (rw c.in-Some.is at c.in_ok-place.ensures)

pub first_in_fields-loop-i-preserved : goal.first_in_fields-loop-i-preserved
first_in_fields-loop-i-preserved t c =
    let none : c.in_ok-place.field-0 ≡ None = only_none c.in_ok-place.field-0 c.in_default.not-Some in
    field_passed (is_listed c.args.targets.now) c.args.parts.now c.args.rows.now c.loop-i.i c.index-parts-i.result _ c.loop-i-test.true c.index-parts-i.is c.loop-i.invariant (rw none at c.in_ok-place.ensures)
