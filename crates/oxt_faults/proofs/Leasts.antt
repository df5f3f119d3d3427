-- The word of the least number, one after another.
use Rattle.std.proofs.Common.{◌≡◌, ◌∙◌, ap, sym, ℕ, ◌+◌, ◌<◌, ◌≤◌, List, length, get_or, drop, fold, map, Option}
use Rattle.oxt_faults.specs.Initializers.{lesser}
use Rattle.oxt_faults.specs.Level.{LevelWordAt, found_view}
use Rattle.oxt_faults.specs.declared.level.FoundWord.{FoundWord}
use Rattle.oxt_names.proofs.Lists.{drop_at, drop_end}

-- one word more
pub least_more : (o o' : Option LevelWordAt) (ws : List FoundWord) (i : ℕ) (w : FoundWord) → i < length ws → w ≡ get_or ws i w → o' ≡ lesser o (found_view w)
    → fold lesser o (map found_view (drop i ws)) ≡ fold lesser o' (map found_view (drop (i + 1) ws))
least_more o o' ws i w within at is = ap (λ xs. fold lesser o (map found_view xs)) (drop_at ws i w within at) ∙ ap (λ p. fold lesser p (map found_view (drop (i + 1) ws))) (sym is)

-- no words more
pub least_done : (o : Option LevelWordAt) (ws : List FoundWord) (i : ℕ) → length ws ≤ i → fold lesser o (map found_view (drop i ws)) ≡ o
least_done o ws i past = ap (λ xs. fold lesser o (map found_view xs)) (drop_end ws i past)

pub ruleset steps = (least_more, least_done)
