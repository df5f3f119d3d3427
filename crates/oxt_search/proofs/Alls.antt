-- All that is given, one part at a time.
use Rattle.std.proofs.Common.{ℕ, zero, suc, ◌+◌, ◌<◌, ◌≤◌, ◌≡◌, refl, sym, ap, ◌∙◌, arith, List, [], ◌∷◌, ◌++◌, length, map, min, drop, get_or, append_assoc, append-nil}
use Rattle.std.proofs.lemmas.List.{map-append}
use Rattle.oxt_search.specs.All.{all_among, all_below, all_in, given_in}
use Rattle.oxt_search.specs.Sought.{Sought}
use Rattle.oxt_grammar.specs.Field.{row_view}
use Rattle.oxt_grammar.specs.declared.holds.Row.{Row}
use Rattle.oxt_grammar.specs.declared.kind.Kind.{Kind}
use Rattle.oxt_names.proofs.Lists.{drop_at, drop_end}
use Rattle.oxt_tree.specs.Doc.{Docs, no_docs, doc}
use Rattle.oxt_tree.specs.View.{docs_in, part_doc}
use Rattle.oxt_tree.specs.declared.tree.Part.{Part}

-- what is left begins with the part at its place
pub among_at : {S A : Type 0} (q : Sought S A) (s : S) (ps : List Part) (i : ℕ) (p : Part) → i < length ps → p ≡ get_or ps i p → all_among q (docs_in (drop i ps)) s ≡ all_in q (part_doc p) s ++ all_among q (docs_in (drop (i + 1) ps)) s
among_at q s ps i p lt here = ap (λ qs. all_among q (docs_in qs) s) (drop_at ps i p lt here)

-- what is left begins with the field at its place
pub below_at : {S A : Type 0} (q : Sought S A) (s : S) (k : Kind) (rs : List Row) (ps : List Part) (i : ℕ) (r : Row) (p : Part) → i < length rs → r ≡ get_or rs i r → i < length ps → p ≡ get_or ps i p → all_below q (docs_in (drop i ps)) k (map row_view (drop i rs)) s ≡ given_in (all_in q (part_doc p)) (q.in_field s k (row_view r)) ++ all_below q (docs_in (drop (i + 1) ps)) k (map row_view (drop (i + 1) rs)) s
below_at q s k rs ps i r p lt here lt' here' = ap (λ qs. all_below q (docs_in (drop i ps)) k (map row_view qs) s) (drop_at rs i r lt here) ∙ ap (λ qs. all_below q (docs_in qs) k (map row_view (r ∷ drop (i + 1) rs)) s) (drop_at ps i p lt' here')

no_rows : {S A : Type 0} (q : Sought S A) (s : S) (k : Kind) (ds : Docs) → all_below q ds k [] s ≡ []
no_rows q s k no_docs = refl
no_rows q s k (doc d ds) = refl

-- no field is left
pub below_end : {S A : Type 0} (q : Sought S A) (s : S) (k : Kind) (rs : List Row) (ps : List Part) (i : ℕ) → min (length rs) (length ps) ≤ i → all_below q (docs_in (drop i ps)) k (map row_view (drop i rs)) s ≡ []
below_end q s k rs [] zero le = refl
below_end q s k rs [] (suc i) le = refl
below_end q s k [] (p ∷ ps) zero le = refl
below_end q s k [] (p ∷ ps) (suc i) le = no_rows q s k (docs_in (drop i ps))
below_end q s k (r ∷ rs) (p ∷ ps) zero le = absurd (omega arith)
below_end q s k (r ∷ rs) (p ∷ ps) (suc i) le = below_end q s k rs ps i (omega arith)

-- one part more
pub among_next : {S A : Type 0} (before after : List A) (q : Sought S A) (s : S) (ps : List Part) (i : ℕ) (p : Part) → i < length ps → p ≡ get_or ps i p → after ≡ before ++ all_in q (part_doc p) s
    → before ++ all_among q (docs_in (drop i ps)) s ≡ after ++ all_among q (docs_in (drop (i + 1) ps)) s
among_next before after q s ps i p lt here pushed =
    ap (λ xs. before ++ xs) (among_at q s ps i p lt here)
    ∙ sym (append_assoc before (all_in q (part_doc p) s) (all_among q (docs_in (drop (i + 1) ps)) s))
    ∙ ap (λ xs. xs ++ all_among q (docs_in (drop (i + 1) ps)) s) (sym pushed)

-- no parts more
pub among_last : {S A : Type 0} (before : List A) (q : Sought S A) (s : S) (ps : List Part) (i : ℕ) → length ps ≤ i → before ++ all_among q (docs_in (drop i ps)) s ≡ before
among_last before q s ps i le = ap (λ qs. before ++ all_among q (docs_in qs) s) (drop_end ps i le) ∙ append-nil before

pub ruleset among_steps = (among_next, among_last)

-- one field more
pub below_next : {S A : Type 0} (before after : List A) (q : Sought S A) (s : S) (k : Kind) (rs : List Row) (ps : List Part) (i : ℕ) (r : Row) (p : Part) → i < length rs → r ≡ get_or rs i r → i < length ps → p ≡ get_or ps i p → after ≡ before ++ given_in (all_in q (part_doc p)) (q.in_field s k (row_view r))
    → before ++ all_below q (docs_in (drop i ps)) k (map row_view (drop i rs)) s ≡ after ++ all_below q (docs_in (drop (i + 1) ps)) k (map row_view (drop (i + 1) rs)) s
below_next before after q s k rs ps i r p lt here lt' here' pushed =
    ap (λ xs. before ++ xs) (below_at q s k rs ps i r p lt here lt' here')
    ∙ sym (append_assoc before (given_in (all_in q (part_doc p)) (q.in_field s k (row_view r))) (all_below q (docs_in (drop (i + 1) ps)) k (map row_view (drop (i + 1) rs)) s))
    ∙ ap (λ xs. xs ++ all_below q (docs_in (drop (i + 1) ps)) k (map row_view (drop (i + 1) rs)) s) (sym pushed)

-- no fields more
pub below_last : {S A : Type 0} (before : List A) (q : Sought S A) (s : S) (k : Kind) (rs : List Row) (ps : List Part) (i : ℕ) → min (length rs) (length ps) ≤ i → before ++ all_below q (docs_in (drop i ps)) k (map row_view (drop i rs)) s ≡ before
below_last before q s k rs ps i le = ap (λ xs. before ++ xs) (below_end q s k rs ps i le) ∙ append-nil before

pub ruleset below_steps = (below_next, below_last)

-- one thing more
pub one_more : {F A : Type 0} (view : F → A) (old new : List F) (x : F) → new ≡ old ++ x ∷ [] → map view new ≡ map view old ++ view x ∷ []
one_more view old new x is = ap (map view) is ∙ map-append view old (x ∷ [])
