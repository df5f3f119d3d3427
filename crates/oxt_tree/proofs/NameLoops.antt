-- The names of a list of patterns, an element at a time.
use Rattle.std.proofs.Common.{ℕ, ◌+◌, ◌<◌, ◌≤◌, ◌≡◌, refl, sym, ap, ◌∙◌, List, [], ◌∷◌, ◌++◌, length, map, drop, get_or, true, false, cond, append_assoc, append-nil}
use Rattle.oxt_grammar.specs.Field.{row_view}
use Rattle.oxt_grammar.specs.declared.holds.Row.{Row}
use Rattle.oxt_names.proofs.Lists.{drop_at, drop_end}
use Rattle.oxt_tree.specs.Bound.{Bound, bound_names, binds_nothing, names_of_each, names_of_fields}
use Rattle.oxt_tree.specs.View.{docs_in, part_doc}
use Rattle.oxt_tree.specs.declared.tree.Part.{Part}

pub each_end : (before : List Bound) (ps : List Part) (i : ℕ) → length ps ≤ i → before ++ names_of_each (docs_in (drop i ps)) ≡ before
each_end before ps i h = ap (λ qs. before ++ names_of_each (docs_in qs)) (drop_end ps i h) ∙ append-nil before

pub each_next : (before after : List Bound) (ps : List Part) (i : ℕ) (p : Part) → i < length ps → p ≡ get_or ps i p → after ≡ before ++ bound_names (part_doc p) → before ++ names_of_each (docs_in (drop i ps)) ≡ after ++ names_of_each (docs_in (drop (i + 1) ps))
each_next before after ps i p h e pushed =
    ap (λ qs. before ++ names_of_each (docs_in qs)) (drop_at ps i p h e)
    ∙ sym (append_assoc before (bound_names (part_doc p)) (names_of_each (docs_in (drop (i + 1) ps))))
    ∙ ap (λ bs. bs ++ names_of_each (docs_in (drop (i + 1) ps))) (sym pushed)

no_fields : (ps : List Part) → names_of_fields (docs_in ps) (map row_view []) ≡ []
no_fields [] = refl
no_fields (p ∷ ps) = refl

pub fields_end : (before : List Bound) (ps : List Part) (rs : List Row) (i : ℕ) → length ps ≤ i → before ++ names_of_fields (docs_in (drop i ps)) (map row_view (drop i rs)) ≡ before
fields_end before ps rs i h = ap (λ qs. before ++ names_of_fields (docs_in qs) (map row_view (drop i rs))) (drop_end ps i h) ∙ append-nil before

pub fields_short : (before : List Bound) (ps : List Part) (rs : List Row) (i : ℕ) → length rs ≤ i → before ++ names_of_fields (docs_in (drop i ps)) (map row_view (drop i rs)) ≡ before
fields_short before ps rs i h = ap (λ qs. before ++ names_of_fields (docs_in (drop i ps)) (map row_view qs)) (drop_end rs i h) ∙ ap (λ bs. before ++ bs) (no_fields (drop i ps)) ∙ append-nil before

fields_at : (ps : List Part) (rs : List Row) (i : ℕ) (p : Part) (r : Row) → i < length ps → p ≡ get_or ps i p → i < length rs → r ≡ get_or rs i r → names_of_fields (docs_in (drop i ps)) (map row_view (drop i rs)) ≡ cond (binds_nothing (row_view r)) [] (bound_names (part_doc p)) ++ names_of_fields (docs_in (drop (i + 1) ps)) (map row_view (drop (i + 1) rs))
fields_at ps rs i p r h e k f = ap (λ qs. names_of_fields (docs_in qs) (map row_view (drop i rs))) (drop_at ps i p h e) ∙ ap (λ qs. names_of_fields (docs_in (p ∷ drop (i + 1) ps)) (map row_view qs)) (drop_at rs i r k f)

pub fields_passed : (before : List Bound) (ps : List Part) (rs : List Row) (i : ℕ) (p : Part) (r : Row) → i < length ps → p ≡ get_or ps i p → i < length rs → r ≡ get_or rs i r → binds_nothing (row_view r) ≡ true → before ++ names_of_fields (docs_in (drop i ps)) (map row_view (drop i rs)) ≡ before ++ names_of_fields (docs_in (drop (i + 1) ps)) (map row_view (drop (i + 1) rs))
fields_passed before ps rs i p r h e k f t =
    ap (λ bs. before ++ bs) (fields_at ps rs i p r h e k f ∙ ap (λ b. cond b [] (bound_names (part_doc p)) ++ names_of_fields (docs_in (drop (i + 1) ps)) (map row_view (drop (i + 1) rs))) t)

pub fields_next : (before after : List Bound) (ps : List Part) (rs : List Row) (i : ℕ) (p : Part) (r : Row) → i < length ps → p ≡ get_or ps i p → i < length rs → r ≡ get_or rs i r → binds_nothing (row_view r) ≡ false → after ≡ before ++ bound_names (part_doc p) → before ++ names_of_fields (docs_in (drop i ps)) (map row_view (drop i rs)) ≡ after ++ names_of_fields (docs_in (drop (i + 1) ps)) (map row_view (drop (i + 1) rs))
fields_next before after ps rs i p r h e k f t pushed =
    ap (λ bs. before ++ bs) (fields_at ps rs i p r h e k f ∙ ap (λ b. cond b [] (bound_names (part_doc p)) ++ names_of_fields (docs_in (drop (i + 1) ps)) (map row_view (drop (i + 1) rs))) t)
    ∙ sym (append_assoc before (bound_names (part_doc p)) (names_of_fields (docs_in (drop (i + 1) ps)) (map row_view (drop (i + 1) rs))))
    ∙ ap (λ bs. bs ++ names_of_fields (docs_in (drop (i + 1) ps)) (map row_view (drop (i + 1) rs))) (sym pushed)

-- the steps of the loop over a list, and of that over fields
pub ruleset each_steps = (each_next, each_end)

pub ruleset field_steps = (fields_next, fields_passed, fields_end, fields_short)
