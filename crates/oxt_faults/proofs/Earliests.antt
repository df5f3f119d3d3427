-- Names that would be captured, one after another.
use Rattle.std.proofs.Common.{◌≡◌, ◌∙◌, ap, sym, ℕ, ◌+◌, ◌<◌, ◌≤◌, List, length, get_or, drop, fold, map, Option}
use Rattle.oxt_faults.specs.Captured.{Capture}
use Rattle.oxt_faults.specs.Earliest.{earlier_of, moved_view}
use Rattle.oxt_faults.specs.declared.earliest.MovedName.{MovedName}
use Rattle.oxt_names.proofs.Lists.{drop_at, drop_end}
use Rattle.oxt_tree.specs.Doc.{Doc}
use Rattle.oxt_tree.specs.Fields.{docs_list}
use Rattle.oxt_tree.specs.View.{docs_in, part_doc}
use Rattle.oxt_tree.specs.declared.tree.Part.{Part}

-- ---- names that were found

-- one more
pub found_more : (o o' : Option Capture) (ws : List MovedName) (i : ℕ) (w : MovedName) → i < length ws → w ≡ get_or ws i w → o' ≡ earlier_of o (moved_view w)
    → fold earlier_of o (map moved_view (drop i ws)) ≡ fold earlier_of o' (map moved_view (drop (i + 1) ws))
found_more o o' ws i w within at is =
    ap (λ xs. fold earlier_of o (map moved_view xs)) (drop_at ws i w within at) ∙ ap (λ p. fold earlier_of p (map moved_view (drop (i + 1) ws))) (sym is)

-- no more
pub found_done : (o : Option Capture) (ws : List MovedName) (i : ℕ) → length ws ≤ i → fold earlier_of o (map moved_view (drop i ws)) ≡ o
found_done o ws i past = ap (λ xs. fold earlier_of o (map moved_view xs)) (drop_end ws i past)

pub ruleset found_steps = (found_more, found_done)

-- ---- parts

-- one more
pub part_more : (f : Option Capture → Doc → Option Capture) (o o' : Option Capture) (ps : List Part) (i : ℕ) (p : Part) → i < length ps → p ≡ get_or ps i p → o' ≡ f o (part_doc p)
    → fold f o (docs_list (docs_in (drop i ps))) ≡ fold f o' (docs_list (docs_in (drop (i + 1) ps)))
part_more f o o' ps i p within at is =
    ap (λ xs. fold f o (docs_list (docs_in xs))) (drop_at ps i p within at) ∙ ap (λ q. fold f q (docs_list (docs_in (drop (i + 1) ps)))) (sym is)

-- no more
pub part_done : (f : Option Capture → Doc → Option Capture) (o : Option Capture) (ps : List Part) (i : ℕ) → length ps ≤ i → fold f o (docs_list (docs_in (drop i ps))) ≡ o
part_done f o ps i past = ap (λ xs. fold f o (docs_list (docs_in xs))) (drop_end ps i past)

pub ruleset part_steps = (part_more, part_done)
