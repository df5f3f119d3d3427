-- The places of what was met, after one more.
use Rattle.std.proofs.Common.{◌≡◌, ◌∙◌, refl, sym, ap, ℕ, ◌+◌, List, [], ◌∷◌, ◌++◌, length, nat_eq, nat_lt, Bool, true, false, cond, not, ◌||◌, Option, None, Some, is_some, true≢false, arith}
use Rattle.std.specs.Cmp.{IsEquivalence}
use Rattle.std.specs.List.{list_any, position, position_from, position_or_len}
use Rattle.std.specs.Option.{option_or}
use Rattle.std.specs.Str.{bytes_eq}
use Rattle.std.proofs.lemmas.Iterator.Adapters.{position_from-zero}
use Rattle.oxt_facts.specs.Groups.{with_met}
use Rattle.oxt_facts.specs.Tags.{noted}

module _ {T : Type 0} (p : T → Bool) where
  from_end : (i : ℕ) (ts : List T) (k : T) → position_from p i (ts ++ k ∷ []) ≡ option_or (position_from p i ts) (cond (p k) (Some (i + length ts)) None)
  from_end i [] k = let e : i ≡ i + 0 = omega arith in ap (λ n. cond (p k) (Some n) None) e
  from_end i (t ∷ ts) k = by (p t) (from_end (i + 1) ts k ∙ ap (λ n. option_or (position_from p (i + 1) ts) (cond (p k) (Some n) None)) further)
    where
      further : i + 1 + length ts ≡ i + length (t ∷ ts)
      further = omega arith

      by : (b : Bool) → position_from p (i + 1) (ts ++ k ∷ []) ≡ option_or (position_from p (i + 1) ts) (cond (p k) (Some (i + length (t ∷ ts))) None)
          → cond b (Some i) (position_from p (i + 1) (ts ++ k ∷ [])) ≡ option_or (cond b (Some i) (position_from p (i + 1) ts)) (cond (p k) (Some (i + length (t ∷ ts))) None)
      by true rest = refl
      by false rest = rest

  at_end : (ts : List T) (k : T) → position p (ts ++ k ∷ []) ≡ option_or (position p ts) (cond (p k) (Some (length ts)) None)
  at_end ts k = position_from-zero p (ts ++ k ∷ []) ∙ from_end 0 ts k ∙ ap (λ n. option_or (position_from p 0 ts) (cond (p k) (Some n) None)) none_before ∙ ap (λ o. option_or o (cond (p k) (Some (length ts)) None)) (sym (position_from-zero p ts))
    where
      none_before : 0 + length ts ≡ length ts
      none_before = omega arith

module _ {T : Type 0} {eq : T → T → Bool} (laws : IsEquivalence eq) where
  -- one more, which was not met before, has the next number
  pub numbered_more : (old new : T → Option ℕ) (ts : List T) (k : T) → ((q : T) → old q ≡ position (eq q) ts) → ((q : T) → new q ≡ cond (eq k q) (Some (length ts)) (old q)) → position (eq k) ts ≡ None
      → (q : T) → new q ≡ position (eq q) (ts ++ k ∷ [])
  numbered_more old new ts k was put none q = put q ∙ by (eq k q) refl ∙ sym (at_end (eq q) ts k)
    where
      by : (b : Bool) → eq k q ≡ b → cond b (Some (length ts)) (old q) ≡ option_or (position (eq q) ts) (cond (eq q k) (Some (length ts)) None)
      by true e =
          let same : eq q ≡ eq k = λ j z. sym (laws.congr k q z e) j in
          sym (ap (λ o. option_or o (cond (eq q k) (Some (length ts)) None)) (ap (λ test. position test ts) same ∙ none) ∙ ap (λ b. cond b (Some (length ts)) None) (laws.symm q k ∙ e))
      by false e = was q ∙ sym (ap (λ b. option_or (position (eq q) ts) (cond b (Some (length ts)) None)) (laws.symm q k ∙ e) ∙ kept (position (eq q) ts))
        where
          kept : (o : Option ℕ) → option_or o None ≡ o
          kept None = refl
          kept (Some n) = refl

module _ {T : Type 0} (p : T → Bool) where
  any_from : (i : ℕ) (ts : List T) → list_any p ts ≡ is_some (position_from p i ts)
  any_from i [] = refl
  any_from i (t ∷ ts) = by (p t) (any_from (i + 1) ts)
    where
      by : (b : Bool) → list_any p ts ≡ is_some (position_from p (i + 1) ts) → b || list_any p ts ≡ is_some (cond b (Some i) (position_from p (i + 1) ts))
      by true rest = refl
      by false rest = rest

  -- what has a place is there
  any_placed : (ts : List T) → list_any p ts ≡ is_some (position p ts)
  any_placed ts = any_from 0 ts ∙ ap is_some (sym (position_from-zero p ts))

  first_at : (ts : List T) (n : ℕ) → Some n ≡ position p ts → n ≡ position_or_len p ts
  first_at ts n h = by (nat_lt (position_or_len p ts) (length ts)) h
    where
      by : (b : Bool) → Some n ≡ cond b (Some (position_or_len p ts)) None → n ≡ position_or_len p ts
      by true h = cc
      by false h = absurd (cc)

  none_passes : (ts : List T) → list_any p ts ≡ false → length ts ≡ position_or_len p ts
  none_passes [] h = refl
  none_passes (t ∷ ts) h = by (p t) h (λ k. none_passes ts k)
    where
      by : (b : Bool) → b || list_any p ts ≡ false → (list_any p ts ≡ false → length ts ≡ position_or_len p ts) → length (t ∷ ts) ≡ cond (not b) (1 + position_or_len p ts) 0
      by true h rest = absurd (true≢false h)
      by false h rest = let one : length (t ∷ ts) ≡ 1 + length ts = omega arith in one ∙ ap (λ n. 1 + n) (rest h)

  -- what has no place would come last
  last_at : (ts : List T) → None ≡ position p ts → length ts ≡ position_or_len p ts
  last_at ts h = none_passes ts (any_placed ts ∙ ap is_some (sym h))

-- a group that was met before, and one that was not
pub met_again : (gs : List ℕ) (g n : ℕ) → Some n ≡ position (nat_eq g) gs → gs ≡ with_met (Some g) gs
met_again gs g n h = sym (ap (λ b. cond b gs (gs ++ g ∷ [])) (any_placed (nat_eq g) gs ∙ ap is_some (sym h)))

pub met_first : (gs new : List ℕ) (g : ℕ) → None ≡ position (nat_eq g) gs → new ≡ gs ++ g ∷ [] → new ≡ with_met (Some g) gs
met_first gs new g h is = is ∙ sym (ap (λ b. cond b gs (gs ++ g ∷ [])) (any_placed (nat_eq g) gs ∙ ap is_some (sym h)))

pub ruleset group_steps = (met_again, met_first)

-- the same of tags
pub noted_again : (ts : List (List ℕ)) (t : List ℕ) (n : ℕ) → Some n ≡ position (bytes_eq t) ts → ts ≡ noted ts (Some t)
noted_again ts t n h = sym (ap (λ b. cond b ts (ts ++ t ∷ [])) (any_placed (bytes_eq t) ts ∙ ap is_some (sym h)))

pub noted_first : (ts new : List (List ℕ)) (t : List ℕ) → None ≡ position (bytes_eq t) ts → new ≡ ts ++ t ∷ [] → new ≡ noted ts (Some t)
noted_first ts new t h is = is ∙ sym (ap (λ b. cond b ts (ts ++ t ∷ [])) (any_placed (bytes_eq t) ts ∙ ap is_some (sym h)))

pub number_again : (ts : List (List ℕ)) (t : List ℕ) (n : ℕ) → Some n ≡ position (bytes_eq t) ts → n ≡ position_or_len (bytes_eq t) ts
number_again ts t n h = first_at (bytes_eq t) ts n h

pub number_first : (ts : List (List ℕ)) (t : List ℕ) (n : ℕ) → None ≡ position (bytes_eq t) ts → n ≡ length ts → n ≡ position_or_len (bytes_eq t) ts
number_first ts t n h is = is ∙ last_at (bytes_eq t) ts h

pub ruleset tag_steps = (noted_again, noted_first, number_again, number_first)
