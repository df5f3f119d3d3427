-- What the text of a number stands for.
use Rattle.std.proofs.Common.{◌≡◌, ℕ, ◌+◌, ◌-◌, ◌*◌, ◌<◌, ◌≤◌, ◌^◌, ◌==◌, ◌&&◌, List, [], ◌∷◌, ◌++◌, drop, length, get_or, Bool, true, false, Option, Some, None, cond, nat_lt, option_and_then, is_some, not, refl, sym, ap, ◌∙◌, arith, lt-ltb, ne_eqb, append-nil}
use Rattle.std.proofs.lemmas.List.{drop_all}
use Rattle.std.proofs.lemmas.Str.{digit_value_digit}
use Rattle.std.proofs.lemmas.Str.Parse.{digit_from_value}
use Rattle.std.specs.Char.{digit_value}
use Rattle.std.specs.Str.Parse.{AllDigits, digits_value, digits_value_after}
use Rattle.std.proofs.lemmas.Bool.{ltb-true, eqb-true}
use Rattle.std.specs.Option.{SomeIff}
use Rattle.std.specs.Float.{binary64, float_is_finite}
use Rattle.fast_float.specs.Text.{Parts, scan, digits_of, nearest, IsInteger}
use Rattle.fast_float.proofs.Writing.{scan-text_of}
use Rattle.serde_json.specs.Data.{Num, unsigned}
use Rattle.serde_json.specs.Find.{as_u64}
use Rattle.serde_json.specs.Read.{is_integer, number_of, number_from, float_of}
use Rattle.oxt_json.proofs.Rest.{drop_at}

float_at : (sign : Bool) (p : Parts) (b : Bool) → float_is_finite (nearest binary64 sign p) ≡ b → option_and_then as_u64 (float_of sign p) ≡ None
float_at sign p true is = rw is refl
float_at sign p false is = rw is refl

no_float : (sign : Bool) (p : Parts) → option_and_then as_u64 (float_of sign p) ≡ None
no_float sign p = float_at sign p _ refl

negative_at : (p : Parts) (b : Bool) (n : Num) → as_u64 n ≡ None → option_and_then as_u64 (cond b (Some n) (float_of true p)) ≡ None
negative_at p true n is = is
negative_at p false n is = no_float true p

-- what begins with a minus is no whole number
pub none_below_zero : (s : List ℕ) → (get_or s 0 0 == 45) ≡ true → None ≡ option_and_then as_u64 (number_of s)
unfolding number_of
none_below_zero s is = rw is (sym (negative_at (scan (drop 1 s)) _ _ refl))

whole_at : (p : Parts) (b : Bool) (n : ℕ) (o : Option ℕ) → SomeIff o (b ≡ true) n → o ≡ option_and_then as_u64 (cond b (Some (unsigned n)) (float_of false p))
whole_at p true n None h = absurd (h refl)
whole_at p true n (Some x) h = ap (λ y. Some y) h.1
whole_at p false n None h = sym (no_float false p)
whole_at p false n (Some x) h = absurd (cc)

is_whole : (p : Parts) → IsInteger p → digits_of p < 2 ^ 64 → (is_integer p && nat_lt (digits_of p) (2 ^ 64)) ≡ true
is_whole p is fits = rw (lt-ltb _ _ is.0, is.1, is.2, lt-ltb _ _ fits) refl

both : (a b : Bool) → (a && b) ≡ true → (a ≡ true) × (b ≡ true)
both true b h = (refl, h)
both false b h = absurd (cc)

unset : (b : Bool) → not b ≡ true → b ≡ false
unset true h = absurd (cc)
unset false h = refl

is_integer-is : (p : Parts) → is_integer p ≡ true → IsInteger p
is_integer-is p h =
    let last = both (nat_lt 0 (length p.whole) && not p.point) (length p.exponent == 0) h in
    let first = both (nat_lt 0 (length p.whole)) (not p.point) last.0 in
    (ltb-true 0 (length p.whole) first.0, unset p.point first.1, eqb-true (length p.exponent) 0 last.1)

some_whole : (p : Parts) (o : Option ℕ) → SomeIff o (IsInteger p × (digits_of p < 2 ^ 64)) (digits_of p) → SomeIff o ((is_integer p && nat_lt (digits_of p) (2 ^ 64)) ≡ true) (digits_of p)
some_whole p None h = λ e. let split = both (is_integer p) (nat_lt (digits_of p) (2 ^ 64)) e in h (is_integer-is p split.0, ltb-true _ _ split.1)
some_whole p (Some x) h = (is_whole p h.0.0 h.0.1, h.1)

pub whole_is : (s : List ℕ) (p : Parts) (o : Option ℕ) → (get_or s 0 0 == 45) ≡ false → p ≡ scan s → SomeIff o (IsInteger p × (digits_of p < 2 ^ 64)) (digits_of p) → o ≡ option_and_then as_u64 (number_of s)
unfolding number_of
whole_is s p o is parts h = rw (is, ← parts) (whole_at p _ (digits_of p) o (some_whole p o h))

-- whether it is in range, by its numeral
pub range_with_minus : (s : List ℕ) (p : Parts) (r : Bool) → (get_or s 0 0 == 45) ≡ true → p ≡ scan (drop 1 s) → r ≡ is_some (number_from true p) → r ≡ is_some (number_of s)
unfolding number_of
range_with_minus s p r is parts h = rw (is, ← parts) h

pub range_with_none : (s : List ℕ) (p : Parts) (r : Bool) → (get_or s 0 0 == 45) ≡ false → p ≡ scan s → r ≡ is_some (number_from false p) → r ≡ is_some (number_of s)
unfolding number_of
range_with_none s p r is parts h = rw (is, ← parts) h

-- ---- plain digits

abbrev plain_parts : List ℕ → Parts
plain_parts ds = record { whole = ds; point = false; fraction = []; exponent_negative = false; exponent = []; len = length (ds ++ []) }

no_minus : (ds : List ℕ) → AllDigits 10 ds → 0 < length ds → (get_or ds 0 0 == 45) ≡ false
no_minus [] h some = absurd (omega arith)
no_minus (d ∷ ds) h some = let digit = digit_from_value d h.0 in ne_eqb d 45 (λ is. omega (arith, is, digit))

plain_scan : (ds : List ℕ) → AllDigits 10 ds → scan ds ≡ plain_parts ds
plain_scan ds h =
    ap scan (sym (append-nil ds)) ∙ scan-text_of (plain_parts ds) (record { whole_digits = h; fraction_digits = tt; exponent_digits = tt; no_point = λ _. refl; no_exponent = λ _. refl; len_is = refl })

plain_number : (ds : List ℕ) (n : ℕ) → AllDigits 10 ds → 0 < length ds → n < 2 ^ 64 → n ≡ digits_value 10 ds → number_of ds ≡ Some (unsigned n)
unfolding number_of
plain_number ds n h some fits is =
    let value : digits_of (plain_parts ds) ≡ n = rw append-nil (sym is) in
    rw (no_minus ds h some, plain_scan ds h, lt-ltb _ _ some, value, lt-ltb _ _ fits) refl

-- the first i bytes are digits, which write n
abbrev pub IsRead : List ℕ → ℕ → ℕ → Type 0
IsRead bs i n = (AllDigits 10 (drop i bs) → AllDigits 10 bs) × (digits_value_after 10 n (drop i bs) ≡ digits_value 10 bs)

digit_is : (b : ℕ) → 48 ≤ b → b ≤ 57 → digit_value b ≡ b - 48
digit_is b low high = let shown = digit_value_digit b (low, high) in omega (arith, shown)

-- one more digit
pub read_more : (bs : List ℕ) (i b n : ℕ) → i < length bs → b ≡ get_or bs i b → 48 ≤ b → b ≤ 57 → IsRead bs i n → IsRead bs (i + 1) (n * 10 + (b - 48))
read_more bs i b n lt is low high h =
    let value = digit_is b low high in
    let here = drop_at bs i b lt is in
    (λ rest. h.0 (rw here (omega (arith, value), rest)), rw (← value) (ap (digits_value_after 10 n) (sym here) ∙ h.1))

-- all are read
pub read_all : (bs : List ℕ) (i n : ℕ) → 0 < length bs → length bs ≤ i → n < 2 ^ 64 → IsRead bs i n → number_of bs ≡ Some (unsigned n)
read_all bs i n some all fits h =
    let none = drop_all i bs all in
    plain_number bs n (h.0 (rw none tt)) some fits (ap (digits_value_after 10 n) (sym none) ∙ h.1)

pub range_plain : (s : List ℕ) (n : ℕ) → number_of s ≡ Some (unsigned n) → true ≡ is_some (number_of s)
range_plain s n is = rw is refl

pub whole_plain : (s : List ℕ) (n : ℕ) → number_of s ≡ Some (unsigned n) → Some n ≡ option_and_then as_u64 (number_of s)
whole_plain s n is = rw is refl
