-- The constants of enum members.
use Rattle.std.specs.Prelude.{ℕ, List, ℤ, pos, negsuc, Bool, true, false}
use Rattle.std.specs.Fmt.{signed_decimal}
use Rattle.oxt_names.specs.Names.{name_bytes}
use Rattle.oxt_names.specs.declared.constant.ConstantValue.{ConstantValue}
use Rattle.oxt_names.specs.declared.constant.ConstantValue.TheVariants as value

-- a whole number or a text
pub data Constant : Type 0 where
  integer : ℤ → Constant
  string : List ℕ → Constant

-- of a constant of the program, what contracts see
abbrev pub constant_view : ConstantValue → Constant
constant_view (value.Number z) = integer z
constant_view (value.Text name) = string (name_bytes name)

-- the text of a constant: of a number, its decimal digits
abbrev pub spelling : Constant → List ℕ
spelling (integer z) = signed_decimal z
spelling (string t) = t

-- a number below zero
abbrev pub is_negative : ℤ → Bool
is_negative (pos n) = false
is_negative (negsuc n) = true
