-- Changes of the names, one after the other.
use Rattle.std.proofs.Common.{◌≡◌, ◌∙◌, ap}
use Rattle.oxt_ctx.specs.Context.{Context}
use Rattle.oxt_ctx.specs.Made.{but_names_of}

pub names_on : (a b c : Context) → b ≡ but_names_of a b → c ≡ but_names_of b c → c ≡ but_names_of a c
names_on a b c one two = two ∙ ap (λ x. but_names_of x c) one
