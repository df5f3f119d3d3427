-- The operators that make constants of constants, and how the language writes them.
use Rattle.std.specs.Prelude.{ℕ, List, [], ◌∷◌, codes, find, Option}
use Rattle.std.specs.Str.{bytes_eq}
use Rattle.oxt_constant.specs.declared.operator.UnaryOperator.{UnaryOperator}
use Rattle.oxt_constant.specs.declared.operator.UnaryOperator.TheVariants as unary
use Rattle.oxt_constant.specs.declared.operator.BinaryOperator.{BinaryOperator}
use Rattle.oxt_constant.specs.declared.operator.BinaryOperator.TheVariants as binary

-- how an operator before its operand is written
abbrev pub unary_text : UnaryOperator → List ℕ
unary_text unary.Plus = codes "+"
unary_text unary.Minus = codes "-"
unary_text unary.BitwiseNot = codes "~"

abbrev pub unary_operators : List UnaryOperator
unary_operators = unary.Plus ∷ unary.Minus ∷ unary.BitwiseNot ∷ []

-- the one that is written so
abbrev pub unary_written : List ℕ → Option UnaryOperator
unary_written t = find (λ o. bytes_eq (unary_text o) t) unary_operators

-- how an operator between its operands is written
abbrev pub binary_text : BinaryOperator → List ℕ
binary_text binary.Add = codes "+"
binary_text binary.Subtract = codes "-"
binary_text binary.Multiply = codes "*"
binary_text binary.Divide = codes "/"
binary_text binary.Remainder = codes "%"
binary_text binary.Power = codes "**"
binary_text binary.ShiftLeft = codes "<<"
binary_text binary.ShiftRight = codes ">>"
binary_text binary.ShiftRightUnsigned = codes ">>>"
binary_text binary.BitwiseAnd = codes "&"
binary_text binary.BitwiseOr = codes "|"
binary_text binary.BitwiseXor = codes "^"

abbrev pub binary_operators : List BinaryOperator
binary_operators =
    binary.Add ∷ binary.Subtract ∷ binary.Multiply ∷ binary.Divide ∷ binary.Remainder ∷ binary.Power
    ∷ binary.ShiftLeft ∷ binary.ShiftRight ∷ binary.ShiftRightUnsigned
    ∷ binary.BitwiseAnd ∷ binary.BitwiseOr ∷ binary.BitwiseXor ∷ []

-- the one that is written so
unfoldable pub binary_written : List ℕ → Option BinaryOperator
binary_written t = find (λ o. bytes_eq (binary_text o) t) binary_operators
