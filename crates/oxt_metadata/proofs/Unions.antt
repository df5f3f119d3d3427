-- The members of a union or an intersection, one after the other.
use Rattle.std.proofs.Common.{◌≡◌, ◌∙◌, sym, ap, ℕ, ◌+◌, ◌<◌, ◌≤◌, List, length, drop, get_or}
use Rattle.oxt_metadata.specs.Sights.{Seeing}
use Rattle.oxt_metadata.specs.Types.{joined_among, joined_in}
use Rattle.oxt_metadata.specs.declared.form.Join.{Join}
use Rattle.oxt_metadata.specs.declared.join.Joined.{Joined}
use Rattle.oxt_names.proofs.Lists.{drop_at, drop_end}
use Rattle.oxt_tree.specs.View.{docs_in, part_doc}
use Rattle.oxt_tree.specs.declared.tree.Part.{Part}

pub one_joined : (whole before after : Joined) (s : Seeing) (j : Join) (ps : List Part) (i : ℕ) (p : Part) → i < length ps → p ≡ get_or ps i p → after ≡ joined_in s (part_doc p) j before
    → whole ≡ joined_among s (docs_in (drop i ps)) j before → whole ≡ joined_among s (docs_in (drop (i + 1) ps)) j after
one_joined whole before after s j ps i p within at is so_far =
    so_far ∙ ap (λ qs. joined_among s (docs_in qs) j before) (drop_at ps i p within at)
    ∙ ap (joined_among s (docs_in (drop (i + 1) ps)) j) (sym is)

pub all_joined : (whole before : Joined) (s : Seeing) (j : Join) (ps : List Part) (i : ℕ) → length ps ≤ i → whole ≡ joined_among s (docs_in (drop i ps)) j before → before ≡ whole
all_joined whole before s j ps i past so_far = sym (so_far ∙ ap (λ qs. joined_among s (docs_in qs) j before) (drop_end ps i past))

pub ruleset steps = (one_joined, all_joined)
