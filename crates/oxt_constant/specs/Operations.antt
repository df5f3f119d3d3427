-- What operators make of constants.
use Rattle.std.specs.Prelude.{◌++◌, Option, None, Some, option_map}
use Rattle.oxt_constant.specs.Integer.{number_unary, number_binary}
use Rattle.oxt_constant.specs.declared.operator.BinaryOperator.{BinaryOperator}
use Rattle.oxt_constant.specs.declared.operator.BinaryOperator.TheVariants as binary
use Rattle.oxt_constant.specs.declared.operator.UnaryOperator.{UnaryOperator}
use Rattle.oxt_names.specs.Constant.{Constant, integer, spelling, string}

-- the text of both, one after the other
abbrev pub joined : Constant → Constant → Constant
joined a b = string (spelling a ++ spelling b)

-- of the operators, only `+` takes a text: it joins
abbrev pub text_binary : BinaryOperator → Constant → Constant → Option Constant
text_binary binary.Add a b = Some (joined a b)
text_binary o a b = None

-- what an operator makes of a constant
abbrev pub unary_constant : UnaryOperator → Constant → Option Constant
unary_constant o (integer a) = option_map integer (number_unary o a)
unary_constant o (string t) = None

-- what an operator makes of two constants
abbrev pub binary_constant : BinaryOperator → Constant → Constant → Option Constant
binary_constant o (integer a) (integer b) = option_map integer (number_binary o a b)
binary_constant o (integer a) (string u) = text_binary o (integer a) (string u)
binary_constant o (string t) b = text_binary o (string t) b
