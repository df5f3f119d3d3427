-- The tables know one member more.
use Rattle.std.proofs.Common.{◌∙◌, refl, option_map}
use Rattle.oxt_enums.proofs.Growth.{knows_put}
use Rattle.oxt_enums.specs.Blocks.{block_view}
use Rattle.oxt_enums.specs.Members.{found_view}
use Rattle.oxt_enums.specs.Tables.{value_view}
use Rattle.oxt_enums.proofs.tables.Tables.put.Goals as goal

pub returns : goal.returns
returns c =
    knows_put c.put_in_enum.result c.args.self.now (record { values = c.push.new.self; numbers = c.put_number.new.table; bodies = c.put_in_body.new.table; enums = c.put_in_enum.new.table })
    c.in_ok-shared.field-0 c.len-place.result c.is_constant-constant.result
    (λ w. record { member = found_view c.args.member.now; block = option_map block_view c.args.block; value = value_view c.args.value.now; is_wide = w })
    (c.len-place.ensures ∙ c.args.self.now.values.ok.0) c.in_ok-push.ensures.items (λ w. c.in_ok-shared.ensures) c.is_constant-constant.ensures (λ w. refl)
    c.in_ok-put_number.ensures c.in_ok-put_in_body.ensures c.put_in_enum.ensures
