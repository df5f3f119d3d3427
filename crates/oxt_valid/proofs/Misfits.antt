-- The first misfit, an element at a time.
use Rattle.std.proofs.Common.{ℕ, suc, ◌+◌, ◌<◌, ◌≤◌, ◌^◌, ◌≡◌, refl, ap, ◌∙◌, arith, List, [], ◌∷◌, length, map, drop, true, false, nat_lt, nat_le, get_or, Option, None, Some}
use Rattle.std.proofs.lemmas.Bool.Decides.{nat_tests}
use Rattle.std.specs.Fmt.{decimal}
use Rattle.oxt_grammar.specs.Keys.{key_of}
use Rattle.oxt_grammar.specs.Field.{row_view}
use Rattle.oxt_grammar.specs.Places.{narrow}
use Rattle.oxt_grammar.specs.declared.category.Category.{Category}
use Rattle.oxt_grammar.specs.declared.context.Setting.{Setting}
use Rattle.oxt_grammar.specs.declared.holds.Holds.{Holds}
use Rattle.oxt_grammar.specs.declared.holds.Row.{Row}
use Rattle.oxt_grammar.specs.declared.kind.Kind.{Kind}
use Rattle.oxt_names.proofs.Lists.{drop_at, drop_end}
use Rattle.oxt_valid.specs.Pointer.{at_key}
use Rattle.oxt_tree.specs.View.{docs_in, part_doc}
use Rattle.oxt_tree.specs.declared.tree.Part.{Part}
use Rattle.oxt_valid.specs.Misfit.{below, head_misfit, misfit, misfit_in_each, misfit_in_fields, or_else, unless}

-- The offsets of a node that is in memory are in range.
pub head_in_range : (c : Option Category) (k : Kind) (b e : ℕ) → b < 2 ^ 32 → e < 2 ^ 32 → head_misfit c k b e ≡ head_misfit c k 0 0
head_in_range None k b e h l = refl
head_in_range (Some c) k b e h l = rw (nat_lt_true b h, nat_lt_true e l) refl
  where
    nat_lt_true : (n : ℕ) → n < 2 ^ 32 → nat_lt n (2 ^ 32) ≡ true
    nat_lt_true n m = grind (arith, nat_tests)

pub each_end : (ps : List Part) (i : ℕ) (s : Setting) (h : Holds) → length ps ≤ i → misfit_in_each (docs_in (drop i ps)) s i h ≡ None
each_end ps i s h k = ap (λ qs. misfit_in_each (docs_in qs) s i h) (drop_end ps i k)

pub each_at : (ps : List Part) (i : ℕ) (p : Part) (s : Setting) (h : Holds) → i < length ps → p ≡ get_or ps i p → misfit_in_each (docs_in (drop i ps)) s i h ≡ or_else (below (decimal i) (misfit (part_doc p) s h)) (misfit_in_each (docs_in (drop (i + 1) ps)) s (i + 1) h)
each_at ps i p s h k e = ap (λ qs. misfit_in_each (docs_in qs) s i h) (drop_at ps i p k e)

-- the steps of the loop over a list
pub ruleset each_steps = (each_at, each_end)

pub field_at : (ps : List Part) (rs : List Row) (i : ℕ) (p : Part) (r : Row) (s inner : Setting) → i < length ps → p ≡ get_or ps i p → i < length rs → r ≡ get_or rs i r → misfit_in_fields (docs_in (drop i ps)) s inner (map row_view (drop i rs)) ≡ or_else (below (key_of r.field) (misfit (part_doc p) inner (narrow s r.holds))) (misfit_in_fields (docs_in (drop (i + 1) ps)) s inner (map row_view (drop (i + 1) rs)))
field_at ps rs i p r s inner h e k f = ap (λ qs. misfit_in_fields (docs_in qs) s inner (map row_view (drop i rs))) (drop_at ps i p h e) ∙ ap (λ qs. misfit_in_fields (docs_in (p ∷ drop (i + 1) ps)) s inner (map row_view qs)) (drop_at rs i r k f)

-- a field is missing
pub field_missing : (ps : List Part) (rs : List Row) (i : ℕ) (r : Row) (s inner : Setting) → length ps ≤ i → i < length rs → r ≡ get_or rs i r → misfit_in_fields (docs_in (drop i ps)) s inner (map row_view (drop i rs)) ≡ Some (at_key (key_of r.field) [])
field_missing ps rs i r s inner h k f = ap (λ qs. misfit_in_fields (docs_in qs) s inner (map row_view (drop i rs))) (drop_end ps i h) ∙ ap (λ qs. misfit_in_fields (docs_in []) s inner (map row_view qs)) (drop_at rs i r k f)

none_less : (n : ℕ) → true ≡ nat_le 0 n
none_less n = grind (arith, nat_tests)

more_than_none : (n : ℕ) → false ≡ nat_le (suc n) 0
more_than_none n = grind (arith, nat_tests)

one_less : (a b : ℕ) → nat_le a b ≡ nat_le (suc a) (suc b)
one_less a b = grind (arith, nat_tests)

-- no row is left: what stands beyond the rows is the node's own fault
pub beyond_rows : (ps : List Part) (rs : List Row) (s inner : Setting) → misfit_in_fields (docs_in (drop (length rs) ps)) s inner [] ≡ unless (nat_le (length ps) (length rs))
beyond_rows [] [] s inner = refl
beyond_rows [] (r ∷ rs) s inner = ap unless (none_less (suc (length rs)))
beyond_rows (p ∷ ps) [] s inner = ap unless (more_than_none (length ps))
beyond_rows (p ∷ ps) (r ∷ rs) s inner = beyond_rows ps rs s inner ∙ ap unless (one_less (length ps) (length rs))

pub field_end : (ps : List Part) (rs : List Row) (i : ℕ) (s inner : Setting) → length rs ≤ i → i ≤ length rs → misfit_in_fields (docs_in (drop i ps)) s inner (map row_view (drop i rs)) ≡ unless (nat_le (length ps) (length rs))
field_end ps rs i s inner h k =
    ap (λ qs. misfit_in_fields (docs_in (drop i ps)) s inner (map row_view qs)) (drop_end rs i h)
    ∙ ap (λ n. misfit_in_fields (docs_in (drop n ps)) s inner []) same
    ∙ beyond_rows ps rs s inner
  where
    same : i ≡ length rs
    same = omega arith

-- the steps of the loop over fields
pub ruleset field_steps = (field_at, field_missing, field_end)
