-- The numeral behind the minus is the rest of the text.
use Rattle.std.proofs.Common.{◌≡◌, drop, is_some, sym, ap, ◌∙◌, arith, take_all, length-drop}
use Rattle.fast_float.specs.Text.{scan}
use Rattle.serde_json.specs.Read.{number_of}
use Rattle.oxt_json.proofs.Numbers.{range_with_minus}
use Rattle.oxt_json.proofs.number.is_in_range.Goals as goal

pub returns-then-has_minus : goal.returns-then-has_minus
returns-then-has_minus c =
    let s = c.as_bytes-bytes.result.now in
    let parts : c.scan.result ≡ scan (drop 1 s) = c.scan.ensures.parts ∙ ap scan (take_all _ (drop 1 s) (omega (arith, length-drop 1 s))) in
    range_with_minus s c.scan.result c.is_negative_in_range.result (sym c.if-has_minus.ensures.value) parts c.is_negative_in_range.ensures ∙ ap (λ t. is_some (number_of t)) c.as_bytes-bytes.ensures.value
