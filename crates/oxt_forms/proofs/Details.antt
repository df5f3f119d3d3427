-- The texts and flags of a node, a field at a time.
use Rattle.std.proofs.Common.{◌≡◌, ◌∙◌, refl, sym, ap, ℕ, ◌+◌, ◌<◌, ◌≤◌, List, [], ◌∷◌, ◌++◌, map, length, drop, get_or, add-one, append_assoc, append-nil, drop-cons, Bool, true, false, if◌then◌else◌}
use Rattle.oxt_grammar.specs.Field.{Field, row_view}
use Rattle.oxt_grammar.specs.declared.holds.Row.{Row}
use Rattle.oxt_names.proofs.Lists.{drop_at, drop_end}
use Rattle.oxt_tree.specs.Doc.{Doc, no_docs}
use Rattle.oxt_tree.specs.View.{docs_in, part_doc}
use Rattle.oxt_tree.specs.declared.tree.Part.{Part}
use Rattle.oxt_facts.specs.Entry.{detail}
use Rattle.oxt_forms.specs.Details.{details, is_detail}

-- the texts and flags from a place on
abbrev pub details_from : ℕ → List Row → List Part → List Doc
details_from i rows parts = details (map row_view (drop i rows)) (docs_in (drop i parts))

-- The rows from a place on begin with the row there.
pub row_at : (rows : List Row) (i : ℕ) (r : Row) → i < length rows → drop i rows ≡ get_or rows i r ∷ drop (i + 1) rows
row_at rows i r within = rw add-one (drop-cons rows i r within)

step : (b : Bool) (whole found rest : List Doc) (d : Doc) → whole ≡ found ++ (if b then d ∷ rest else rest) → whole ≡ (if b then found ++ d ∷ [] else found) ++ rest
step true whole found rest d h = h ∙ sym (append_assoc found (d ∷ []) rest)
step false whole found rest d h = h

pub detail_more : (whole : List Doc) (rows : List Row) (parts : List Part) (i : ℕ) (r : Row) (p : Part) (old new : List Doc) → i < length rows → i < length parts → p ≡ get_or parts i p
    → new ≡ (if is_detail (row_view (get_or rows i r)) then old ++ detail (part_doc p) ∷ [] else old) → whole ≡ old ++ details_from i rows parts → whole ≡ new ++ details_from (i + 1) rows parts
detail_more whole rows parts i r p old new within within_parts at is so_far =
    let here : whole ≡ old ++ details (map row_view (get_or rows i r ∷ drop (i + 1) rows)) (docs_in (p ∷ drop (i + 1) parts)) =
    so_far ∙ ap (λ rs. old ++ details (map row_view rs) (docs_in (drop i parts))) (row_at rows i r within) ∙ ap (λ ps. old ++ details (map row_view (get_or rows i r ∷ drop (i + 1) rows)) (docs_in ps)) (drop_at parts i p within_parts at) in
    step (is_detail (row_view (get_or rows i r))) whole old (details_from (i + 1) rows parts) (detail (part_doc p)) here ∙ ap (λ v. v ++ details_from (i + 1) rows parts) (sym is)

pub no_more_rows : (whole found : List Doc) (rows : List Row) (parts : List Part) (i : ℕ) → length rows ≤ i → whole ≡ found ++ details_from i rows parts → found ≡ whole
no_more_rows whole found rows parts i past so_far =
    sym (so_far ∙ ap (λ rs. found ++ details (map row_view rs) (docs_in (drop i parts))) (drop_end rows i past) ∙ append-nil found)

no_docs_left : (rs : List Field) → details rs no_docs ≡ []
no_docs_left [] = refl
no_docs_left (r ∷ rs) = refl

pub no_more_parts : (whole found : List Doc) (rows : List Row) (parts : List Part) (i : ℕ) → length parts ≤ i → whole ≡ found ++ details_from i rows parts → found ≡ whole
no_more_parts whole found rows parts i past so_far =
    sym (so_far ∙ ap (λ ps. found ++ details (map row_view (drop i rows)) (docs_in ps)) (drop_end parts i past) ∙ ap (λ v. found ++ v) (no_docs_left (map row_view (drop i rows))) ∙ append-nil found)
