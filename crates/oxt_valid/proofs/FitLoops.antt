-- Fitting lists, an element at a time.
use Rattle.std.proofs.Common.{ℕ, suc, ◌+◌, ◌<◌, ◌≤◌, ◌^◌, ◌≡◌, refl, ap, ◌∙◌, arith, List, [], ◌∷◌, length, map, drop, Bool, true, false, ◌&&◌, nat_lt, get_or}
use Rattle.std.proofs.lemmas.Bool.Decides.{nat_tests}
use Rattle.oxt_grammar.specs.Field.{row_view}
use Rattle.oxt_grammar.specs.Places.{narrow}
use Rattle.oxt_grammar.specs.declared.context.Setting.{Setting}
use Rattle.oxt_grammar.specs.declared.holds.Holds.{Holds}
use Rattle.oxt_grammar.specs.declared.holds.Row.{Row}
use Rattle.oxt_names.proofs.Lists.{drop_at, drop_end}
use Rattle.oxt_valid.specs.Valid.{fits, fields_fit, all_fit}
use Rattle.oxt_tree.specs.View.{docs_in, part_doc}
use Rattle.oxt_tree.specs.declared.tree.Part.{Part}

pub span_fits : (b e : ℕ) (rest : Bool) → b < 2 ^ 32 → e < 2 ^ 32 → ((nat_lt b (2 ^ 32) && nat_lt e (2 ^ 32)) && rest) ≡ rest
span_fits b e rest h k = grind (arith, nat_tests)

pub all_fit_end : (ps : List Part) (i : ℕ) (s : Setting) (h : Holds) → length ps ≤ i → all_fit (docs_in (drop i ps)) s h ≡ true
all_fit_end ps i s h k = ap (λ qs. all_fit (docs_in qs) s h) (drop_end ps i k)

pub all_fit_at : (ps : List Part) (i : ℕ) (p : Part) (s : Setting) (h : Holds) → i < length ps → p ≡ get_or ps i p → all_fit (docs_in (drop i ps)) s h ≡ (fits (part_doc p) s h && all_fit (docs_in (drop (i + 1) ps)) s h)
all_fit_at ps i p s h k e = ap (λ qs. all_fit (docs_in qs) s h) (drop_at ps i p k e)

pub fields_fit_end : (ps : List Part) (rs : List Row) (i : ℕ) (s inner : Setting) → length ps ≤ i → length rs ≤ i → fields_fit (docs_in (drop i ps)) s inner (map row_view (drop i rs)) ≡ true
fields_fit_end ps rs i s inner h k = ap (λ qs. fields_fit (docs_in qs) s inner (map row_view (drop i rs))) (drop_end ps i h) ∙ ap (λ qs. fields_fit (docs_in []) s inner (map row_view qs)) (drop_end rs i k)

pub fields_fit_at : (ps : List Part) (rs : List Row) (i : ℕ) (p : Part) (r : Row) (s inner : Setting) → i < length ps → p ≡ get_or ps i p → i < length rs → r ≡ get_or rs i r → fields_fit (docs_in (drop i ps)) s inner (map row_view (drop i rs)) ≡ (fits (part_doc p) inner (narrow s r.holds) && fields_fit (docs_in (drop (i + 1) ps)) s inner (map row_view (drop (i + 1) rs)))
fields_fit_at ps rs i p r s inner h e k f = ap (λ qs. fields_fit (docs_in qs) s inner (map row_view (drop i rs))) (drop_at ps i p h e) ∙ ap (λ qs. fields_fit (docs_in (p ∷ drop (i + 1) ps)) s inner (map row_view qs)) (drop_at rs i r k f)

-- There is a part for each row, and no more.
pub fields_fit_lengths : (ps : List Part) (rs : List Row) (s inner : Setting) → (length ps ≡ length rs → ⊥) → fields_fit (docs_in ps) s inner (map row_view rs) ≡ false
fields_fit_lengths [] [] s inner h = absurd (h refl)
fields_fit_lengths [] (r ∷ rs) s inner h = refl
fields_fit_lengths (p ∷ ps) [] s inner h = refl
fields_fit_lengths (p ∷ ps) (r ∷ rs) s inner h = step (fits (part_doc p) inner (narrow s r.holds)) (fields_fit_lengths ps rs s inner (λ e. h (ap (λ n. suc n) e)))
  where
    step : (b : Bool) {c : Bool} → c ≡ false → (b && c) ≡ false
    step true e = e
    step false e = refl

-- the steps of the loop over a list, and of that over fields
pub ruleset all_fit_steps = (all_fit_at, all_fit_end)

pub ruleset fields_fit_steps = (fields_fit_at, fields_fit_end, fields_fit_lengths)
