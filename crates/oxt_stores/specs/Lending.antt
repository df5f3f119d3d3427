-- What a stack becomes once a borrow of its top is over.
use Rattle.std.specs.Prelude.{List, Option}
use Rattle.std.specs.Borrow.{Lends, LendsIf, Fml, RattleType, MutBor}
use Rattle.oxt_stores.specs.Top.{with_top}
use Rattle.oxt_stores.specs.contracts.sparse.SparseStack.{the_row}

module _ (T : RattleType) (s : MutBor (List (Option T.Denot))) where
  -- the stack ends with what is written behind r on top
  abbrev pub LendsPresentTop : MutBor T.Denot → Fml
  LendsPresentTop r = Lends (the_row T) T s r (with_top s.now)

  -- the same where r is a reference, and at `None` the stack stays as it is
  abbrev pub LendsTop : Option (MutBor T.Denot) → Fml
  LendsTop r = LendsIf (the_row T) T s r (with_top s.now) s.now
