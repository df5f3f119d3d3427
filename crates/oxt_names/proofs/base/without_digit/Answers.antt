-- The last byte of a text is a digit, or it has none there.
use Rattle.std.proofs.Common.{◌≡◌, ◌-◌, Some, sym, ◌∙◌, slice_get, length}
use Rattle.std.proofs.lemmas.Str.Pattern.{strip_suffix_char}
use Rattle.oxt_names.proofs.Trims.{digit_small, unless_digit, last_stays}
use Rattle.oxt_names.proofs.base.without_digit.Goals as goal

pub returns-then-is_digit : goal.returns-then-is_digit
returns-then-is_digit c =
    let e : Some c.in_ok-last.field-0.now ≡ slice_get c.args.text.now (length c.args.text.now - 1) = rw c.as_bytes.ensures.value at c.in_ok-last.ensures.value in
    let d = sym c.is_digit.ensures ∙ c.if-is_digit.true in
    unless_digit c.args.text.now c.in_ok-last.field-0.now c.strip_suffix.result e d
    (strip_suffix_char c.in_ok-last.field-0.now c.args.text.now c.strip_suffix.result c.strip_suffix.ensures.cases (digit_small c.in_ok-last.field-0.now d))

pub returns-else-is_digit : goal.returns-else-is_digit
returns-else-is_digit c =
    let e : Some c.in_ok-last.field-0.now ≡ slice_get c.args.text.now (length c.args.text.now - 1) = rw c.as_bytes.ensures.value at c.in_ok-last.ensures.value in
    last_stays c.args.text.now c.in_ok-last.field-0.now e (sym c.is_digit.ensures ∙ c.if-is_digit.false)
