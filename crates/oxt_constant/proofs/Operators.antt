-- An operator between numbers, and between others.
use Rattle.std.proofs.Common.{◌≡◌, refl, ap, ℤ, List, Option, None, Some, option_map}
use Rattle.oxt_constant.specs.Operands.{numbers_in}
use Rattle.oxt_constant.specs.Operations.{binary_constant, text_binary}
use Rattle.oxt_names.specs.Constant.{Constant, integer, string}
use Rattle.oxt_constant.specs.Integer.{number_binary}
use Rattle.oxt_constant.specs.declared.operator.BinaryOperator.{BinaryOperator}

abbrev of_pair : BinaryOperator → Option (ℤ × ℤ) → Option Constant
of_pair o None = None
of_pair o (Some p) = option_map integer (number_binary o p.0 p.1)

pub of_numbers : (o : BinaryOperator) (a b : Constant) (p : ℤ × ℤ) → Some p ≡ numbers_in a b → option_map integer (number_binary o p.0 p.1) ≡ binary_constant o a b
of_numbers o (integer a) (integer b) p h = ap (of_pair o) h
of_numbers o (integer a) (string u) p h = cc
of_numbers o (string t) b p h = cc

pub of_texts : (o : BinaryOperator) (a b : Constant) → None ≡ numbers_in a b → text_binary o a b ≡ binary_constant o a b
of_texts o (integer a) (integer b) h = cc
of_texts o (integer a) (string u) h = refl
of_texts o (string t) b h = refl

pub ruleset numbers_or_texts = (of_numbers, of_texts)
