-- Looking through lists of parts for a place.
use Rattle.std.proofs.Common.{ℕ, zero, suc, ◌+◌, ◌<◌, ◌≤◌, ◌≡◌, refl, ap, ◌∙◌, arith, List, [], ◌∷◌, length, map, min, drop, get_or, None, option_map}
use Rattle.std.specs.Fmt.{decimal}
use Rattle.std.specs.Option.{option_or}
use Rattle.oxt_grammar.specs.Keys.{key_of}
use Rattle.oxt_valid.specs.Place.{place_among, place_below, place_in}
use Rattle.oxt_grammar.specs.Field.{row_view}
use Rattle.oxt_grammar.specs.declared.holds.Row.{Row}
use Rattle.oxt_names.proofs.Lists.{drop_at, drop_end}
use Rattle.oxt_tree.specs.Doc.{Docs, no_docs, doc}
use Rattle.oxt_valid.specs.Pointer.{at_key}
use Rattle.oxt_tree.specs.View.{docs_in, part_doc}
use Rattle.oxt_tree.specs.declared.tree.Part.{Part}

-- one more element
pub among_more : (n : ℕ) (ps : List Part) (i : ℕ) (p : Part) → i < length ps → p ≡ get_or ps i p → place_among (docs_in (drop i ps)) n i ≡ option_or (option_map (at_key (decimal i)) (place_in (part_doc p) n)) (place_among (docs_in (drop (i + 1) ps)) n (i + 1))
among_more n ps i p lt here = ap (λ qs. place_among (docs_in qs) n i) (drop_at ps i p lt here)

-- no more elements
pub among_done : (n : ℕ) (ps : List Part) (i : ℕ) → length ps ≤ i → place_among (docs_in (drop i ps)) n i ≡ None
among_done n ps i le = ap (λ qs. place_among (docs_in qs) n i) (drop_end ps i le)

-- one more field
pub below_more : (n : ℕ) (rs : List Row) (ps : List Part) (i : ℕ) (r : Row) (p : Part) → i < length rs → r ≡ get_or rs i r → i < length ps → p ≡ get_or ps i p → place_below (docs_in (drop i ps)) n (map row_view (drop i rs)) ≡ option_or (option_map (at_key (key_of r.field)) (place_in (part_doc p) n)) (place_below (docs_in (drop (i + 1) ps)) n (map row_view (drop (i + 1) rs)))
below_more n rs ps i r p lt here lt' here' = ap (λ qs. place_below (docs_in (drop i ps)) n (map row_view qs)) (drop_at rs i r lt here) ∙ ap (λ qs. place_below (docs_in qs) n (map row_view (r ∷ drop (i + 1) rs))) (drop_at ps i p lt' here')

no_rows : (n : ℕ) (ds : Docs) → place_below ds n [] ≡ None
no_rows n no_docs = refl
no_rows n (doc d ds) = refl

-- no more fields
pub below_done : (n : ℕ) (rs : List Row) (ps : List Part) (i : ℕ) → min (length rs) (length ps) ≤ i → place_below (docs_in (drop i ps)) n (map row_view (drop i rs)) ≡ None
below_done n rs [] zero le = refl
below_done n rs [] (suc i) le = refl
below_done n [] (p ∷ ps) zero le = refl
below_done n [] (p ∷ ps) (suc i) le = no_rows n (docs_in (drop i ps))
below_done n (r ∷ rs) (p ∷ ps) zero le = absurd (omega arith)
below_done n (r ∷ rs) (p ∷ ps) (suc i) le = below_done n rs ps i (omega arith)
