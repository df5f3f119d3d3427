-- Changes of the table of names, one after the other.
use Rattle.std.proofs.Common.{◌≡◌, ◌∙◌, ap}
use Rattle.oxt_ctx.specs.Context.{Context}
use Rattle.oxt_lower.specs.Context.{but_table_of}

pub frame_on : (a b c : Context) → b ≡ but_table_of a b → c ≡ but_table_of b c → c ≡ but_table_of a c
frame_on a b c one two = two ∙ ap (λ x. but_table_of x c) one
