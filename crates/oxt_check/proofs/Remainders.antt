-- The first thing of TypeScript beside wrappers that are kept, an element at a time.
use Rattle.std.proofs.Common.{ℕ, zero, suc, ◌+◌, ◌<◌, ◌≤◌, ◌≡◌, refl, sym, ap, ◌∙◌, List, [], ◌∷◌, length, map, drop, get_or, add-one, Bool, Option, None, Some}
use Rattle.std.specs.Fmt.{decimal}
use Rattle.std.specs.List.{slice_get}
use Rattle.oxt_grammar.specs.Field.{row_view}
use Rattle.oxt_grammar.specs.declared.holds.Holds.{Holds}
use Rattle.oxt_grammar.specs.declared.holds.Row.{Row}
use Rattle.oxt_check.specs.Beside.{beside_in_each, beside_in_fields, first_typescript_beside, in_row}
use Rattle.oxt_check.specs.Targets.{held_by}
use Rattle.oxt_names.proofs.Lists.{drop_at, drop_end}
use Rattle.oxt_tree.specs.Doc.{Docs, doc, Doc}
use Rattle.oxt_tree.specs.View.{docs_in, part_doc}
use Rattle.oxt_tree.specs.declared.tree.Part.{Part}
use Rattle.oxt_valid.specs.Misfit.{below, or_else}

pub each_end : (h : Holds) (ks : ℕ → Bool) (ps : List Part) (i : ℕ) → length ps ≤ i → beside_in_each (docs_in (drop i ps)) h ks i ≡ None
each_end h ks ps i k = ap (λ qs. beside_in_each (docs_in qs) h ks i) (drop_end ps i k)

pub each_at : (h : Holds) (ks : ℕ → Bool) (ps : List Part) (i : ℕ) (p : Part) → i < length ps → p ≡ get_or ps i p → beside_in_each (docs_in (drop i ps)) h ks i ≡ or_else (below (decimal i) (first_typescript_beside (part_doc p) h ks)) (beside_in_each (docs_in (drop (i + 1) ps)) h ks (i + 1))
each_at h ks ps i p k e = ap (λ qs. beside_in_each (docs_in qs) h ks i) (drop_at ps i p k e)

-- the steps of the loop over a list
pub ruleset each_steps = (each_at, each_end)

pub field_end : (ks : ℕ → Bool) (ps : List Part) (rs : List Row) (i : ℕ) → length ps ≤ i → beside_in_fields (docs_in (drop i ps)) ks (map row_view (drop i rs)) ≡ None
field_end ks ps rs i k = ap (λ qs. beside_in_fields (docs_in qs) ks (map row_view (drop i rs))) (drop_end ps i k)

-- the fields from the first on, with the rows from an index on
split : (ks : ℕ → Bool) (d : Doc) (ds : Docs) (rs : List Row) (i : ℕ) → beside_in_fields (doc d ds) ks (map row_view (drop i rs)) ≡ or_else (in_row (slice_get (map row_view rs) i) d (first_typescript_beside d (held_by (slice_get (map row_view rs) i)) ks)) (beside_in_fields ds ks (map row_view (drop (suc i) rs)))
split ks d ds [] zero = refl
split ks d ds [] (suc i) = refl
split ks d ds (r ∷ rs) zero = refl
split ks d ds (r ∷ rs) (suc i) = split ks d ds rs i

pub field_at : (ks : ℕ → Bool) (ps : List Part) (rs : List Row) (i : ℕ) (p : Part) → i < length ps → p ≡ get_or ps i p → beside_in_fields (docs_in (drop i ps)) ks (map row_view (drop i rs)) ≡ or_else (in_row (slice_get (map row_view rs) i) (part_doc p) (first_typescript_beside (part_doc p) (held_by (slice_get (map row_view rs) i)) ks)) (beside_in_fields (docs_in (drop (i + 1) ps)) ks (map row_view (drop (i + 1) rs)))
field_at ks ps rs i p k e = ap (λ qs. beside_in_fields (docs_in qs) ks (map row_view (drop i rs))) (drop_at ps i p k e) ∙ rw add-one (split ks (part_doc p) (docs_in (drop (suc i) ps)) rs i)

-- a place is found in the field, and it is the first
pub field_found : (ks : ℕ → Bool) (ps : List Part) (rs : List Row) (i : ℕ) (p : Part) (place : List ℕ) (whole : Option (List ℕ)) → i < length ps → p ≡ get_or ps i p → whole ≡ beside_in_fields (docs_in (drop i ps)) ks (map row_view (drop i rs)) → Some place ≡ in_row (slice_get (map row_view rs) i) (part_doc p) (first_typescript_beside (part_doc p) (held_by (slice_get (map row_view rs) i)) ks) → Some place ≡ whole
field_found ks ps rs i p place whole k e so_far found =
    ap (λ o. or_else o (beside_in_fields (docs_in (drop (i + 1) ps)) ks (map row_view (drop (i + 1) rs)))) found
    ∙ sym (so_far ∙ field_at ks ps rs i p k e)

-- no place is found in the field
pub field_passed : (ks : ℕ → Bool) (ps : List Part) (rs : List Row) (i : ℕ) (p : Part) (whole : Option (List ℕ)) → i < length ps → p ≡ get_or ps i p → whole ≡ beside_in_fields (docs_in (drop i ps)) ks (map row_view (drop i rs)) → None ≡ in_row (slice_get (map row_view rs) i) (part_doc p) (first_typescript_beside (part_doc p) (held_by (slice_get (map row_view rs) i)) ks) → whole ≡ beside_in_fields (docs_in (drop (i + 1) ps)) ks (map row_view (drop (i + 1) rs))
field_passed ks ps rs i p whole k e so_far none =
    so_far ∙ field_at ks ps rs i p k e
    ∙ sym (ap (λ o. or_else o (beside_in_fields (docs_in (drop (i + 1) ps)) ks (map row_view (drop (i + 1) rs)))) none)

pub only_none : {A : Type 0} (o : Option A) → ((x : A) → o ≡ Some x → ⊥) → o ≡ None
only_none None h = refl
only_none (Some x) h = absurd (h x refl)

-- the end of the loop over fields
pub ruleset field_steps = (field_end)
