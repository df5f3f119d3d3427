-- The top of a stack on which an entry was put.
use Rattle.std.proofs.Common.{◌≡◌, List, [], ◌∷◌, ◌++◌, refl, ap, ◌∙◌, ℕ, suc, ◌-◌, ◌<◌, length, get_or, None, IsSome, arith}
use Rattle.std.specs.Prelude.{Option}
use Rattle.oxt_stores.specs.Top.{top}

pub top_pushed : {T : Type 0} (es : List (Option T)) (e : Option T) → top (es ++ e ∷ []) ≡ e
top_pushed [] e = refl
top_pushed (f ∷ []) e = refl
top_pushed (f ∷ g ∷ es) e = top_pushed (g ∷ es) e

-- what was popped was on top
pub top_popped : {T : Type 0} (all es : List (Option T)) (e : Option T) → all ≡ es ++ e ∷ [] → top all ≡ e
top_popped all es e split = ap top split ∙ top_pushed es e

pub top_none : {T : Type 0} (es : List (Option T)) → length es ≡ 0 → top es ≡ None
top_none [] none = refl
top_none (e ∷ es) none = absurd (omega arith)

-- what is on top is the last entry
pub top_at : {T : Type 0} (es : List (Option T)) (d : Option T) → 0 < length es → top es ≡ get_or es (length es - 1) d
top_at [] d some = absurd (omega arith)
top_at (e ∷ []) d some = refl
top_at (e ∷ f ∷ es) d some =
    let later : top (f ∷ es) ≡ get_or (f ∷ es) (length (f ∷ es) - 1) d = top_at (f ∷ es) d (omega arith) in
    let place : length (e ∷ f ∷ es) - 1 ≡ suc (length (f ∷ es) - 1) = omega arith in
    rw place later

-- where there is a value on top, it is in the last entry
pub top_is : {T : Type 0} (es fs : List (Option T)) (n : ℕ) (e : Option T) → es ≡ fs → n ≡ length fs → IsSome (top es) → e ≡ get_or fs (n - 1) e → top es ≡ e
top_is [] fs n e same len some here = absurd (cc)
top_is (f ∷ es) fs n e same len some here =
    let last : top (f ∷ es) ≡ get_or (f ∷ es) (length (f ∷ es) - 1) e = top_at (f ∷ es) e (omega arith) in
    cc
