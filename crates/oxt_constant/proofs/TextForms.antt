-- The parts of which one is a text by its form.
use Rattle.std.proofs.Common.{◌≡◌, ap, ℕ, ◌+◌, ◌<◌, ◌≤◌, List, length, drop, get_or, false, ◌||◌}
use Rattle.oxt_constant.specs.Reversed.{is_text_form, some_text_form}
use Rattle.oxt_names.proofs.Lists.{drop_at, drop_end}
use Rattle.oxt_tree.specs.View.{docs_in, part_doc}
use Rattle.oxt_tree.specs.declared.tree.Part.{Part}

pub form_more : (ps : List Part) (i : ℕ) (p : Part) → i < length ps → p ≡ get_or ps i p → some_text_form (docs_in (drop i ps)) ≡ (is_text_form (part_doc p) || some_text_form (docs_in (drop (i + 1) ps)))
form_more ps i p lt here = ap (λ qs. some_text_form (docs_in qs)) (drop_at ps i p lt here)

pub form_done : (ps : List Part) (i : ℕ) → length ps ≤ i → some_text_form (docs_in (drop i ps)) ≡ false
form_done ps i le = ap (λ qs. some_text_form (docs_in qs)) (drop_end ps i le)

pub ruleset form_steps = (form_more, form_done)
