-- The first that is given, one part at a time.
use Rattle.std.proofs.Common.{ℕ, zero, suc, ◌+◌, ◌<◌, ◌≤◌, ◌≡◌, refl, ap, ◌∙◌, arith, List, [], ◌∷◌, ◌++◌, length, map, min, drop, get_or, Option, None}
use Rattle.std.specs.Option.{option_or}
use Rattle.oxt_search.proofs.Alls.{among_at, below_at, below_end}
use Rattle.oxt_search.specs.All.{all_among, all_below, all_in, given_in}
use Rattle.oxt_search.specs.First.{first}
use Rattle.oxt_search.specs.Sought.{Sought}
use Rattle.oxt_grammar.specs.Field.{row_view}
use Rattle.oxt_grammar.specs.declared.holds.Row.{Row}
use Rattle.oxt_grammar.specs.declared.kind.Kind.{Kind}
use Rattle.oxt_names.proofs.Lists.{drop_end}
use Rattle.oxt_tree.specs.View.{docs_in, part_doc}
use Rattle.oxt_tree.specs.declared.tree.Part.{Part}

first_append : {A : Type 0} (xs ys : List A) → first (xs ++ ys) ≡ option_or (first xs) (first ys)
first_append [] ys = refl
first_append (x ∷ xs) ys = refl

-- one more part
pub among_more : {S A : Type 0} (q : Sought S A) (s : S) (ps : List Part) (i : ℕ) (p : Part) → i < length ps → p ≡ get_or ps i p → first (all_among q (docs_in (drop i ps)) s) ≡ option_or (first (all_in q (part_doc p) s)) (first (all_among q (docs_in (drop (i + 1) ps)) s))
among_more q s ps i p lt here = ap first (among_at q s ps i p lt here) ∙ first_append (all_in q (part_doc p) s) (all_among q (docs_in (drop (i + 1) ps)) s)

-- no more parts
pub among_done : {S A : Type 0} (q : Sought S A) (s : S) (ps : List Part) (i : ℕ) → length ps ≤ i → first (all_among q (docs_in (drop i ps)) s) ≡ None
among_done q s ps i le = ap (λ qs. first (all_among q (docs_in qs) s)) (drop_end ps i le)

-- one more field
pub below_more : {S A : Type 0} (q : Sought S A) (s : S) (k : Kind) (rs : List Row) (ps : List Part) (i : ℕ) (r : Row) (p : Part) → i < length rs → r ≡ get_or rs i r → i < length ps → p ≡ get_or ps i p → first (all_below q (docs_in (drop i ps)) k (map row_view (drop i rs)) s) ≡ option_or (first (given_in (all_in q (part_doc p)) (q.in_field s k (row_view r)))) (first (all_below q (docs_in (drop (i + 1) ps)) k (map row_view (drop (i + 1) rs)) s))
below_more q s k rs ps i r p lt here lt' here' = ap first (below_at q s k rs ps i r p lt here lt' here') ∙ first_append (given_in (all_in q (part_doc p)) (q.in_field s k (row_view r))) (all_below q (docs_in (drop (i + 1) ps)) k (map row_view (drop (i + 1) rs)) s)

-- no more fields
pub below_done : {S A : Type 0} (q : Sought S A) (s : S) (k : Kind) (rs : List Row) (ps : List Part) (i : ℕ) → min (length rs) (length ps) ≤ i → first (all_below q (docs_in (drop i ps)) k (map row_view (drop i rs)) s) ≡ None
below_done q s k rs ps i le = ap first (below_end q s k rs ps i le)
