-- What a word is: a flag, the end of the flags, or a value.
use Rattle.std.proofs.lemmas.Bool.{true≢false}
use Rattle.std.proofs.lemmas.Bool.Decides.{Decides-eqb}
use Rattle.std.proofs.Common.{◌≡◌, ◌∙◌, ◌<◌, ℕ, Bool, true, false, refl, sym, ap, subst, arith, List, [], ◌∷◌, length, Some, None}
use Rattle.std.specs.Prelude.{◌==◌, not, slice_get, encode_utf8_all}
use Rattle.std.specs.Str.{IsUtf8, chars}
use Rattle.std.proofs.lemmas.Str.{IsCharBoundary-after_ascii, IsUtf8-drop, chars-encodes}
use Rattle.clap.specs.Lexer.{long_of, short_of}
use Rattle.oxt_flags.specs.Flags.{Text, is_end, is_value}

-- a word that is no flag and not `--`
pub record IsPlain (word : Text) : Type 0 where
  pub not_end : is_end word ≡ false
  pub not_long : long_of word ≡ None
  pub not_short : short_of word ≡ None

plain_of_two : (x y : ℕ) (ys : Text) → (x == 45) ≡ false → IsPlain (x ∷ y ∷ ys)
plain_of_two x y ys e = record { not_end = rw e refl; not_long = rw e refl; not_short = rw e refl }

not_hyphen : (b : Bool) → not b ≡ true → b ≡ false
not_hyphen true e = absurd (true≢false (sym e))
not_hyphen false e = refl

plain_of_one : (x : ℕ) (b : Bool) → (x == 45) ≡ b → IsPlain (x ∷ [])
plain_of_one x true e = record { not_end = rw e refl; not_long = rw e refl; not_short = rw e refl }
plain_of_one x false e = record { not_end = rw e refl; not_long = rw e refl; not_short = rw e refl }

-- a value is no flag
pub value_is_plain : (word : Text) → is_value word ≡ true → IsPlain word
value_is_plain [] e = record { not_end = refl; not_long = refl; not_short = refl }
value_is_plain (x ∷ []) e = plain_of_one x (x == 45) refl
value_is_plain (x ∷ y ∷ ys) e = plain_of_two x y ys (not_hyphen (x == 45) e)

-- what is neither a flag nor `--` is a value
pub plain_is_value : (word : Text) → is_end word ≡ false → long_of word ≡ None → short_of word ≡ None → is_value word ≡ true
plain_is_value [] a b c = refl
plain_is_value (x ∷ []) a b c = refl
plain_is_value (x ∷ y ∷ ys) a b c = first (x == 45) refl
  where
    third : (zs : Text) → (x == 45) ≡ true → (y == 45) ≡ true → is_end (x ∷ y ∷ zs) ≡ false → long_of (x ∷ y ∷ zs) ≡ None → is_value (x ∷ y ∷ zs) ≡ true
    third [] e f no_end no_long = let bad : true ≡ false = rw (e, f) at no_end in absurd (true≢false bad)
    third (z ∷ zs) e f no_end no_long = let bad = rw (e, f) at no_long in cc

    second : (h : Bool) → (x == 45) ≡ true → (y == 45) ≡ h → is_value (x ∷ y ∷ ys) ≡ true
    second true e f = third ys e f a b
    second false e f = let bad = rw (e, f) at c in cc

    first : (h : Bool) → (x == 45) ≡ h → is_value (x ∷ y ∷ ys) ≡ true
    first true e = second (y == 45) e refl
    first false e = rw e refl

-- what follows the hyphen is text, and not empty
starts : (flags : Text) (cs : List ℕ) → Rattle.std.proofs.Math.Utf8.scalars cs ≡ true → encode_utf8_all cs ≡ flags → 0 < length flags
    → (x : ℕ) × (slice_get (chars flags) 0 ≡ Some x)
starts flags [] scalar are some = let bad : 0 < 0 = subst (λ (t : Text). 0 < length t) (sym are) some in absurd (omega arith)
starts flags (x ∷ cs) scalar are some = (x, ap (λ t. slice_get (chars t) 0) (sym are) ∙ ap (λ t. slice_get t 0) (chars-encodes (x ∷ cs) scalar))

after_hyphen : (x y : ℕ) (ys flags : Text) → IsUtf8 (x ∷ y ∷ ys) → (x == 45) ≡ true → y ∷ ys ≡ flags → (z : ℕ) × (slice_get (chars flags) 0 ≡ Some z)
after_hyphen x y ys flags u hyphen is =
    let word : Text = x ∷ y ∷ ys in
    let code : x ≡ 45 = (Decides-eqb x 45).0 hyphen in
    let rest : IsUtf8 (y ∷ ys) = IsUtf8-drop word 1 u (IsCharBoundary-after_ascii word 0 u (omega arith) (omega arith)) in
    let all : IsUtf8 flags = subst IsUtf8 is rest in
    starts flags all.0 all.1.0 all.1.1 (subst (λ (t : Text). 0 < length t) is (omega arith))

-- a flag word with one hyphen has a first character
pub short_starts : (word flags : Text) → IsUtf8 word → short_of word ≡ Some flags → (x : ℕ) × (slice_get (chars flags) 0 ≡ Some x)
short_starts [] flags u e = absurd (cc)
short_starts (x ∷ []) flags u e = one (x == 45) refl
  where
    one : (h : Bool) → (x == 45) ≡ h → (z : ℕ) × (slice_get (chars flags) 0 ≡ Some z)
    one true hyphen = let bad = rw hyphen at e in absurd (cc)
    one false hyphen = let bad = rw hyphen at e in absurd (cc)
short_starts (x ∷ y ∷ ys) flags u e = first (x == 45) refl
  where
    second : (h : Bool) → (x == 45) ≡ true → (y == 45) ≡ h → (z : ℕ) × (slice_get (chars flags) 0 ≡ Some z)
    second true hyphen more = let bad = rw (hyphen, more) at e in absurd (cc)
    second false hyphen more = let is = rw (hyphen, more) at e in after_hyphen x y ys flags u hyphen (cc)

    first : (h : Bool) → (x == 45) ≡ h → (z : ℕ) × (slice_get (chars flags) 0 ≡ Some z)
    first true hyphen = second (y == 45) hyphen refl
    first false hyphen = let bad = rw hyphen at e in absurd (cc)
