-- Whole numbers as enum constants: JavaScript's, as far as its numbers hold each of them exactly.
-- A JavaScript number has a sign and a size; minus zero, an infinity, a fraction and a number past
-- the exact ones are no constants.
use Rattle.std.specs.Prelude.{ℕ, suc, zero, ◌*◌, ◌/◌, ◌%◌, ◌^◌, ◌==◌, ◌&&◌, nat_lt, Bool, true, false, not, if◌then◌else◌, ℤ, pos, negsuc, ◌+ℤ◌, ◌-ℤ◌, neg_ℤ, unsigned_abs, Option, None, Some}
use Rattle.std.specs.Int.{int_rem_euclid}
use Rattle.std.specs.Int.RustNames.{bit_and, bit_or, bit_xor}
use Rattle.oxt_names.specs.Constant.{is_negative}
use Rattle.oxt_constant.specs.declared.operator.UnaryOperator.{UnaryOperator}
use Rattle.oxt_constant.specs.declared.operator.UnaryOperator.TheVariants as unary
use Rattle.oxt_constant.specs.declared.operator.BinaryOperator.{BinaryOperator}
use Rattle.oxt_constant.specs.declared.operator.BinaryOperator.TheVariants as binary

-- the largest whole number up to which JavaScript's numbers hold each one exactly: 2 ^ 53 - 1
abbrev pub largest : ℕ
largest = 9007199254740991

-- the constant with that sign and size; minus zero is none
abbrev pub with_sign : Bool → ℕ → Option ℤ
with_sign false n = Some (pos n)
with_sign true zero = None
with_sign true (suc n) = Some (negsuc n)

-- the same, where the size is one of the exact ones
abbrev pub signed : Bool → ℕ → Option ℤ
signed negative size = if nat_lt largest size then None else with_sign negative size

-- the number as a constant
abbrev pub kept : ℤ → Option ℤ
kept z = signed (is_negative z) (unsigned_abs z)

-- ToUint32: the residue modulo 2 ^ 32
abbrev pub to_uint32 : ℤ → ℕ
to_uint32 z = unsigned_abs (int_rem_euclid z (pos (2 ^ 32)))

-- the residue from -2 ^ 31 on that a residue from 0 on stands for
abbrev pub signed_32 : ℕ → ℤ
signed_32 n = if nat_lt n (2 ^ 31) then pos n else (pos n -ℤ pos (2 ^ 32))

-- ToInt32: the residue modulo 2 ^ 32 that lies from -2 ^ 31 to 2 ^ 31 - 1
abbrev pub to_int32 : ℤ → ℤ
to_int32 z = signed_32 (to_uint32 z)

-- how far a shift by the number goes: its lowest five bits
abbrev pub shift_count : ℤ → ℕ
shift_count z = to_uint32 z % 32

-- a sum of two whole numbers is never minus zero, as neither of them is
abbrev pub sum : ℤ → ℤ → Option ℤ
sum a b = kept (a +ℤ b)

abbrev pub difference : ℤ → ℤ → Option ℤ
difference a b = kept (a -ℤ b)

-- just one of the numbers is below zero
abbrev pub signs_differ : ℤ → ℤ → Bool
signs_differ a b = if is_negative a then not (is_negative b) else is_negative b

-- a product or a quotient has a minus where just one side has it
abbrev pub product : ℤ → ℤ → Option ℤ
product a b = signed (signs_differ a b) (unsigned_abs a * unsigned_abs b)

-- only an exact quotient is a whole number
abbrev pub quotient : ℤ → ℤ → Option ℤ
quotient a b =
    if unsigned_abs b == 0 then None
    else if unsigned_abs a % unsigned_abs b == 0 then signed (signs_differ a b) (unsigned_abs a / unsigned_abs b)
    else None

-- a remainder has the sign of the dividend
abbrev pub remainder : ℤ → ℤ → Option ℤ
remainder a b =
    if unsigned_abs b == 0 then None
    else signed (is_negative a) (unsigned_abs a % unsigned_abs b)

-- an odd power keeps the sign; one with a negative exponent is no constant
unfoldable pub power : ℤ → ℤ → Option ℤ
power a b =
    if is_negative b then None
    else signed (is_negative a && (unsigned_abs b % 2 == 1)) (unsigned_abs a ^ unsigned_abs b)

-- the number divided by the positive one and rounded down
abbrev pub rounded_down : ℤ → ℕ → ℤ
rounded_down (pos a) m = pos (a / m)
rounded_down (negsuc a) m = negsuc (a / m)

-- what an operator makes of a number
abbrev pub number_unary : UnaryOperator → ℤ → Option ℤ
number_unary unary.Plus a = Some a
number_unary unary.Minus a = signed (not (is_negative a)) (unsigned_abs a)
number_unary unary.BitwiseNot a = Some (neg_ℤ (to_int32 a) -ℤ pos 1)

-- what an operator makes of two numbers
abbrev pub number_binary : BinaryOperator → ℤ → ℤ → Option ℤ
number_binary binary.Add a b = sum a b
number_binary binary.Subtract a b = difference a b
number_binary binary.Multiply a b = product a b
number_binary binary.Divide a b = quotient a b
number_binary binary.Remainder a b = remainder a b
number_binary binary.Power a b = power a b
number_binary binary.ShiftLeft a b = Some (signed_32 ((to_uint32 a * 2 ^ shift_count b) % 2 ^ 32))
number_binary binary.ShiftRight a b = Some (rounded_down (to_int32 a) (2 ^ shift_count b))
number_binary binary.ShiftRightUnsigned a b = Some (pos (to_uint32 a / 2 ^ shift_count b))
number_binary binary.BitwiseAnd a b = Some (signed_32 (bit_and (to_uint32 a) (to_uint32 b)))
number_binary binary.BitwiseOr a b = Some (signed_32 (bit_or (to_uint32 a) (to_uint32 b)))
number_binary binary.BitwiseXor a b = Some (signed_32 (bit_xor (to_uint32 a) (to_uint32 b)))

-- the size, where it is one of the exact ones
abbrev pub bounded : ℕ → Option ℕ
bounded n = if nat_lt largest n then None else Some n
