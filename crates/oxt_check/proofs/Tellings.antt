-- What is told of a list of parts, an element at a time.
use Rattle.std.proofs.Common.{ℕ, ◌+◌, ◌<◌, ◌≤◌, ◌≡◌, refl, sym, ap, ◌∙◌, List, [], ◌∷◌, ◌++◌, length, map, drop, get_or, append_assoc, append-nil, Bool}
use Rattle.oxt_grammar.specs.Field.{row_view}
use Rattle.oxt_grammar.specs.declared.holds.Holds.{Holds}
use Rattle.oxt_grammar.specs.declared.holds.Row.{Row}
use Rattle.oxt_check.specs.Diagnostics.{told_among, told_below, told_in}
use Rattle.oxt_check.specs.declared.seat.Seat.{Seat}
use Rattle.oxt_options.specs.Options.{TransformData}
use Rattle.oxt_names.proofs.Lists.{drop_at, drop_end}
use Rattle.oxt_tree.specs.View.{docs_in, part_doc}
use Rattle.oxt_names.specs.declared.diagnostic.OxcDiagnostic.{OxcDiagnostic}
use Rattle.oxt_tree.specs.declared.tree.Part.{Part}

pub each_end : (before : List OxcDiagnostic) (ks : ℕ → Bool) (o : TransformData) (s : Seat) (h : Holds) (ps : List Part) (i : ℕ) → length ps ≤ i → before ++ told_among (docs_in (drop i ps)) ks o s h ≡ before
each_end before ks o s h ps i le = ap (λ qs. before ++ told_among (docs_in qs) ks o s h) (drop_end ps i le) ∙ append-nil before

pub each_next : (before after : List OxcDiagnostic) (ks : ℕ → Bool) (o : TransformData) (s : Seat) (h : Holds) (ps : List Part) (i : ℕ) (p : Part) → i < length ps → p ≡ get_or ps i p → after ≡ before ++ told_in (part_doc p) ks o s h → before ++ told_among (docs_in (drop i ps)) ks o s h ≡ after ++ told_among (docs_in (drop (i + 1) ps)) ks o s h
each_next before after ks o s h ps i p lt here pushed =
    ap (λ qs. before ++ told_among (docs_in qs) ks o s h) (drop_at ps i p lt here)
    ∙ sym (append_assoc before (told_in (part_doc p) ks o s h) (told_among (docs_in (drop (i + 1) ps)) ks o s h))
    ∙ ap (λ ns. ns ++ told_among (docs_in (drop (i + 1) ps)) ks o s h) (sym pushed)

no_rows : (ks : ℕ → Bool) (o : TransformData) (s : Seat) (ps : List Part) → told_below (docs_in ps) ks o s (map row_view []) ≡ []
no_rows ks o s [] = refl
no_rows ks o s (p ∷ ps) = refl

pub fields_end : (before : List OxcDiagnostic) (ks : ℕ → Bool) (o : TransformData) (s : Seat) (ps : List Part) (rs : List Row) (i : ℕ) → length ps ≤ i → before ++ told_below (docs_in (drop i ps)) ks o s (map row_view (drop i rs)) ≡ before
fields_end before ks o s ps rs i le = ap (λ qs. before ++ told_below (docs_in qs) ks o s (map row_view (drop i rs))) (drop_end ps i le) ∙ append-nil before

pub fields_short : (before : List OxcDiagnostic) (ks : ℕ → Bool) (o : TransformData) (s : Seat) (ps : List Part) (rs : List Row) (i : ℕ) → length rs ≤ i → before ++ told_below (docs_in (drop i ps)) ks o s (map row_view (drop i rs)) ≡ before
fields_short before ks o s ps rs i le = ap (λ qs. before ++ told_below (docs_in (drop i ps)) ks o s (map row_view qs)) (drop_end rs i le) ∙ ap (λ ns. before ++ ns) (no_rows ks o s (drop i ps)) ∙ append-nil before

fields_at : (ks : ℕ → Bool) (o : TransformData) (s : Seat) (ps : List Part) (rs : List Row) (i : ℕ) (p : Part) (r : Row) → i < length ps → p ≡ get_or ps i p → i < length rs → r ≡ get_or rs i r → told_below (docs_in (drop i ps)) ks o s (map row_view (drop i rs)) ≡ told_in (part_doc p) ks o s r.holds ++ told_below (docs_in (drop (i + 1) ps)) ks o s (map row_view (drop (i + 1) rs))
fields_at ks o s ps rs i p r lt here lt' here' = ap (λ qs. told_below (docs_in qs) ks o s (map row_view (drop i rs))) (drop_at ps i p lt here) ∙ ap (λ qs. told_below (docs_in (p ∷ drop (i + 1) ps)) ks o s (map row_view qs)) (drop_at rs i r lt' here')

pub fields_next : (before after : List OxcDiagnostic) (ks : ℕ → Bool) (o : TransformData) (s : Seat) (ps : List Part) (rs : List Row) (i : ℕ) (p : Part) (r : Row) → i < length ps → p ≡ get_or ps i p → i < length rs → r ≡ get_or rs i r → after ≡ before ++ told_in (part_doc p) ks o s r.holds → before ++ told_below (docs_in (drop i ps)) ks o s (map row_view (drop i rs)) ≡ after ++ told_below (docs_in (drop (i + 1) ps)) ks o s (map row_view (drop (i + 1) rs))
fields_next before after ks o s ps rs i p r lt here lt' here' pushed =
    ap (λ ns. before ++ ns) (fields_at ks o s ps rs i p r lt here lt' here')
    ∙ sym (append_assoc before (told_in (part_doc p) ks o s r.holds) (told_below (docs_in (drop (i + 1) ps)) ks o s (map row_view (drop (i + 1) rs))))
    ∙ ap (λ ns. ns ++ told_below (docs_in (drop (i + 1) ps)) ks o s (map row_view (drop (i + 1) rs))) (sym pushed)

-- the steps of the loop over a list, and of that over fields
pub ruleset each_steps = (each_next, each_end)

pub ruleset field_steps = (fields_next, fields_end, fields_short)
