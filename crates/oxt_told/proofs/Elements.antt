-- Parameters of constructors, one after another.
use Rattle.std.proofs.Common.{◌≡◌, ◌∙◌, sym, ap, ℕ, ◌+◌, ◌<◌, ◌≤◌, List, ◌++◌, length, get_or, drop, append_assoc, append-nil}
use Rattle.oxt_told.specs.Classes.{property_name, property_names}
use Rattle.oxt_names.proofs.Lists.{drop_at, drop_end}
use Rattle.oxt_tree.specs.Bound.{Bound, bound_views}
use Rattle.oxt_tree.specs.View.{docs_in, part_doc}
use Rattle.oxt_tree.specs.declared.bound.BoundName.{BoundName}
use Rattle.oxt_tree.specs.declared.tree.Part.{Part}

-- ---- the names of parameters that are properties

pub name_more : (whole : List Bound) (ps : List Part) (i : ℕ) (p : Part) (old new : List BoundName) → i < length ps → p ≡ get_or ps i p → bound_views new ≡ bound_views old ++ property_name (part_doc p)
    → whole ≡ bound_views old ++ property_names (docs_in (drop i ps)) → whole ≡ bound_views new ++ property_names (docs_in (drop (i + 1) ps))
name_more whole ps i p old new within at is so_far =
    so_far ∙ ap (λ qs. bound_views old ++ property_names (docs_in qs)) (drop_at ps i p within at)
    ∙ sym (append_assoc (bound_views old) (property_name (part_doc p)) (property_names (docs_in (drop (i + 1) ps))))
    ∙ ap (λ v. v ++ property_names (docs_in (drop (i + 1) ps))) (sym is)

pub name_done : (whole : List Bound) (ps : List Part) (i : ℕ) (old : List BoundName) → length ps ≤ i → whole ≡ bound_views old ++ property_names (docs_in (drop i ps)) → bound_views old ≡ whole
name_done whole ps i old past so_far = sym (so_far ∙ ap (λ qs. bound_views old ++ property_names (docs_in qs)) (drop_end ps i past) ∙ append-nil (bound_views old))

pub ruleset name_steps = (name_more, name_done)
