-- What an entry of a stack becomes once a borrow of its value is over.
use Rattle.std.specs.Prelude.{Option, Some}
use Rattle.std.specs.Borrow.{Lends, Fml, RattleType, MutBor}
use Rattle.std.specs.contracts.option.Option.{the_row}

-- the entry ends with what is written behind r
abbrev pub LendsValue : (T : RattleType) → MutBor (Option T.Denot) → MutBor T.Denot → Fml
LendsValue T s r = Lends (the_row T) T s r (λ w. Some w)
