-- What is left of a text without its front or its end.
use denote.Ref.{Bor}
use Rattle.std.proofs.Common.{◌≡◌, refl, sym, ap, ◌∙◌, ℕ, eqb, MatchOption, ◌-◌, List, Bool, true, false, ⊎_elim, true≢false, if◌then◌else◌, length, take, drop, Option, None, Some, option_map}
use Rattle.std.proofs.lemmas.Bool.{cases_Bool}
use Rattle.std.specs.Str.Pattern.{FindsTextPrefix, FindsTextSuffix, StripsPrefix, StripsSuffix}
use Rattle.std.proofs.lemmas.Bool.Decides.{Decides-eqb}
use Rattle.std.proofs.lemmas.Slice.Eq.{starts_is, ends_is}
use Rattle.std.specs.List.{starts_with, ends_with}

chosen : (b : Bool) (x : List ℕ) → b ≡ true → (if b then Some x else None) ≡ Some x
chosen true x e = refl
chosen false x e = absurd (true≢false (sym e))

passed : (b : Bool) (x : List ℕ) → b ≡ false → (if b then Some x else None) ≡ None
passed false x e = refl
passed true x e = absurd (true≢false e)

pub front_of : (n s : List ℕ) (r : Option (Bor (List ℕ))) → MatchOption r (FindsTextPrefix n s None) (λ x. StripsPrefix (FindsTextPrefix n) s x.now)
    → option_map (λ (x : Bor (List ℕ)). x.now) r ≡ (if starts_with eqb s n then Some (drop (length n) s) else None)
front_of n s None h =
    ⊎_elim (λ e. absurd (h _ ((starts_is Decides-eqb s n _ refl).0 e))) (λ e. sym (passed (starts_with eqb s n) (drop (length n) s) e)) (cases_Bool (starts_with eqb s n))
front_of n s (Some x) h =
    ap Some (h.2 ∙ ap (λ k. drop k s) h.1.0)
    ∙ sym (chosen (starts_with eqb s n) (drop (length n) s) ((starts_is Decides-eqb s n _ refl).1 _ h.1.1))

pub end_of : (n s : List ℕ) (r : Option (Bor (List ℕ))) → MatchOption r (FindsTextSuffix n s None) (λ x. StripsSuffix (FindsTextSuffix n) s x.now)
    → option_map (λ (x : Bor (List ℕ)). x.now) r ≡ (if ends_with eqb s n then Some (take (length s - length n) s) else None)
end_of n s None h =
    ⊎_elim (λ e. absurd (h _ ((ends_is Decides-eqb s n _ refl).0 e))) (λ e. sym (passed (ends_with eqb s n) (take (length s - length n) s) e)) (cases_Bool (ends_with eqb s n))
end_of n s (Some x) h =
    ap Some (h.2 ∙ ap (λ k. take (length s - k) s) h.1.0)
    ∙ sym (chosen (ends_with eqb s n) (take (length s - length n) s) ((ends_is Decides-eqb s n _ refl).1 _ h.1.1))
