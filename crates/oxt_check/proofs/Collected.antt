-- The wrappers of a list of parts, an element at a time.
use Rattle.std.proofs.Common.{ℕ, ◌+◌, ◌<◌, ◌≤◌, ◌≡◌, refl, sym, ap, ◌∙◌, List, [], ◌∷◌, ◌++◌, length, map, drop, get_or, append_assoc, append-nil, Bool}
use Rattle.oxt_grammar.specs.Field.{row_view}
use Rattle.oxt_grammar.specs.declared.holds.Holds.{Holds}
use Rattle.oxt_grammar.specs.declared.holds.Row.{Row}
use Rattle.oxt_check.specs.Targets.{targets_among, targets_below, targets_in}
use Rattle.oxt_names.proofs.Lists.{drop_at, drop_end}
use Rattle.oxt_tree.specs.View.{docs_in, part_doc}
use Rattle.oxt_tree.specs.declared.tree.Part.{Part}

pub each_end : (l : Bool) (before : List ℕ) (h : Holds) (ps : List Part) (i : ℕ) → length ps ≤ i → before ++ targets_among l (docs_in (drop i ps)) h ≡ before
each_end l before h ps i le = ap (λ qs. before ++ targets_among l (docs_in qs) h) (drop_end ps i le) ∙ append-nil before

pub each_next : (l : Bool) (before after : List ℕ) (h : Holds) (ps : List Part) (i : ℕ) (p : Part) → i < length ps → p ≡ get_or ps i p → after ≡ before ++ targets_in l (part_doc p) h → before ++ targets_among l (docs_in (drop i ps)) h ≡ after ++ targets_among l (docs_in (drop (i + 1) ps)) h
each_next l before after h ps i p lt here pushed =
    ap (λ qs. before ++ targets_among l (docs_in qs) h) (drop_at ps i p lt here)
    ∙ sym (append_assoc before (targets_in l (part_doc p) h) (targets_among l (docs_in (drop (i + 1) ps)) h))
    ∙ ap (λ ns. ns ++ targets_among l (docs_in (drop (i + 1) ps)) h) (sym pushed)

no_rows : (l : Bool) (ps : List Part) → targets_below l (docs_in ps) (map row_view []) ≡ []
no_rows l [] = refl
no_rows l (p ∷ ps) = refl

pub fields_end : (l : Bool) (before : List ℕ) (ps : List Part) (rs : List Row) (i : ℕ) → length ps ≤ i → before ++ targets_below l (docs_in (drop i ps)) (map row_view (drop i rs)) ≡ before
fields_end l before ps rs i le = ap (λ qs. before ++ targets_below l (docs_in qs) (map row_view (drop i rs))) (drop_end ps i le) ∙ append-nil before

pub fields_short : (l : Bool) (before : List ℕ) (ps : List Part) (rs : List Row) (i : ℕ) → length rs ≤ i → before ++ targets_below l (docs_in (drop i ps)) (map row_view (drop i rs)) ≡ before
fields_short l before ps rs i le = ap (λ qs. before ++ targets_below l (docs_in (drop i ps)) (map row_view qs)) (drop_end rs i le) ∙ ap (λ ns. before ++ ns) (no_rows l (drop i ps)) ∙ append-nil before

fields_at : (l : Bool) (ps : List Part) (rs : List Row) (i : ℕ) (p : Part) (r : Row) → i < length ps → p ≡ get_or ps i p → i < length rs → r ≡ get_or rs i r → targets_below l (docs_in (drop i ps)) (map row_view (drop i rs)) ≡ targets_in l (part_doc p) r.holds ++ targets_below l (docs_in (drop (i + 1) ps)) (map row_view (drop (i + 1) rs))
fields_at l ps rs i p r lt here lt' here' = ap (λ qs. targets_below l (docs_in qs) (map row_view (drop i rs))) (drop_at ps i p lt here) ∙ ap (λ qs. targets_below l (docs_in (p ∷ drop (i + 1) ps)) (map row_view qs)) (drop_at rs i r lt' here')

pub fields_next : (l : Bool) (before after : List ℕ) (ps : List Part) (rs : List Row) (i : ℕ) (p : Part) (r : Row) → i < length ps → p ≡ get_or ps i p → i < length rs → r ≡ get_or rs i r → after ≡ before ++ targets_in l (part_doc p) r.holds → before ++ targets_below l (docs_in (drop i ps)) (map row_view (drop i rs)) ≡ after ++ targets_below l (docs_in (drop (i + 1) ps)) (map row_view (drop (i + 1) rs))
fields_next l before after ps rs i p r lt here lt' here' pushed =
    ap (λ ns. before ++ ns) (fields_at l ps rs i p r lt here lt' here')
    ∙ sym (append_assoc before (targets_in l (part_doc p) r.holds) (targets_below l (docs_in (drop (i + 1) ps)) (map row_view (drop (i + 1) rs))))
    ∙ ap (λ ns. ns ++ targets_below l (docs_in (drop (i + 1) ps)) (map row_view (drop (i + 1) rs))) (sym pushed)

-- the steps of the loop over a list, and of that over fields
pub ruleset each_steps = (each_next, each_end)

pub ruleset field_steps = (fields_next, fields_end, fields_short)
