-- Numbers that a reader of JSON finds again: whole numbers of 64 bits.
use Rattle.std.specs.Prelude.{◌^◌, ◌<◌, Option, None, Some, ⊤}
use Rattle.serde_json.specs.Data.{Num, unsigned, negative, float, Data, null, boolean, number, string, array, object, Items, no_items, item, Members, no_members, member}

abbrev pub NumFits : Num → Type 0
NumFits (unsigned n) = n < 2 ^ 64
NumFits (negative z) = ⊥
NumFits (float x) = ⊥

-- each number in the data is such a one
abbrev mutual
  pub DataFits : Data → Type 0
  DataFits null = ⊤
  DataFits (boolean b) = ⊤
  DataFits (number n) = NumFits n
  DataFits (string s) = ⊤
  DataFits (array ds) = ItemsFit ds
  DataFits (object ms) = MembersFit ms

  pub ItemsFit : Items → Type 0
  ItemsFit no_items = ⊤
  ItemsFit (item d ds) = DataFits d × ItemsFit ds

  pub MembersFit : Members → Type 0
  MembersFit no_members = ⊤
  MembersFit (member k d ms) = DataFits d × MembersFit ms

-- the same of data that may be missing
abbrev pub MaybeFits : Option Data → Type 0
MaybeFits None = ⊤
MaybeFits (Some d) = DataFits d
