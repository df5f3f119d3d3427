-- Made names: a text that a name is made from gives candidates, the first of which that is free is the
-- name.
use Rattle.std.specs.Prelude.{ℕ, zero, suc, ◌==◌, List, [], ◌∷◌, ◌++◌, length, Bool, true, false, ◌&&◌, nat_le, if◌then◌else◌}
use Rattle.std.specs.Fmt.{decimal}
use Rattle.std.specs.Cmp.Lexicographic.{slice_cmp}
use Rattle.std.specs.List.{list_any}
use Rattle.std.specs.Ordering.{match_ordering, nat_cmp}
use Rattle.std.specs.Str.{bytes_eq}

-- the text is one of the texts
abbrev pub is_among : List ℕ → List (List ℕ) → Bool
is_among t ss = list_any (bytes_eq t) ss

-- the texts and that one, before the first of them that is not before it in the order of their bytes
abbrev pub placed : List ℕ → List (List ℕ) → List (List ℕ)
placed t [] = t ∷ []
placed t (s ∷ ss) = match_ordering (slice_cmp nat_cmp t s) (t ∷ s ∷ ss) (s ∷ ss) (s ∷ placed t ss)

-- the texts and that one, which goes to its place where they did not have it
abbrev pub added : List ℕ → List (List ℕ) → List (List ℕ)
added t ss = if is_among t ss then ss else placed t ss

-- the texts and each of those in turn
abbrev pub all_added : List (List ℕ) → List (List ℕ) → List (List ℕ)
all_added [] ss = ss
all_added (t ∷ ts) ss = all_added ts (added t ss)

-- the text without the underscores at its front
abbrev pub without_underscores : List ℕ → List ℕ
without_underscores [] = []
without_underscores (b ∷ bs) = if b == 95 then without_underscores bs else b ∷ bs

-- an ASCII digit
abbrev pub is_digit : ℕ → Bool
is_digit b = nat_le 48 b && nat_le b 57

abbrev pub is_empty : List ℕ → Bool
is_empty [] = true
is_empty (b ∷ bs) = false

-- the byte and the text after it; neither, if it is a digit at the end
abbrev pub before_end : ℕ → List ℕ → List ℕ
before_end b bs = if is_empty bs && is_digit b then [] else b ∷ bs

-- the text without the digits at its end
abbrev pub without_digits : List ℕ → List ℕ
without_digits [] = []
without_digits (b ∷ bs) = before_end b (without_digits bs)

-- what each candidate begins with: an underscore and the text without underscores and digits
abbrev pub base_of : List ℕ → List ℕ
base_of t = 95 ∷ without_digits (without_underscores t)

-- the candidate of that number, counted from 1: the base, and then the base with 2, 3 and so on
abbrev pub candidate : List ℕ → ℕ → List ℕ
candidate base n = if n == 1 then base else base ++ decimal n

-- the first candidate from that number on that is not among the texts; so many are tried before it
abbrev pub first_free : List (List ℕ) → List ℕ → ℕ → ℕ → List ℕ
first_free taken base n zero = candidate base n
first_free taken base n (suc left) =
    if is_among (candidate base n) taken then first_free taken base (suc n) left else candidate base n

-- the name that is made from a text where the others are taken: one of the first candidates is free, one
-- more of them than there are names
abbrev pub made_name : List (List ℕ) → List ℕ → List ℕ
made_name taken t = first_free taken (base_of t) 1 (length taken)
