-- The constants of expressions while they are put together.
use Rattle.std.specs.Prelude.{Option, None, Some, ℤ, string_bytes}
use Rattle.oxt_constant.specs.declared.operand.Operand.{Operand}
use Rattle.oxt_constant.specs.declared.operand.Operand.TheVariants as operand
use Rattle.oxt_names.specs.Constant.{Constant, constant_view, integer, string}

-- of an operand of the program, what contracts see
abbrev pub operand_view : Operand → Constant
operand_view (operand.Shared v) = constant_view v
operand_view (operand.Made t) = string (string_bytes t)

-- both, where both are numbers
abbrev pub numbers_in : Constant → Constant → Option (ℤ × ℤ)
numbers_in (integer a) (integer b) = Some (a, b)
numbers_in (integer a) (string u) = None
numbers_in (string t) b = None
