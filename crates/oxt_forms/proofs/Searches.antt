-- Looking for a name in a list of parts.
use Rattle.std.proofs.Common.{ℕ, ◌+◌, ◌<◌, ◌≤◌, ◌≡◌, sym, ap, ◌∙◌, List, Bool, true, false, ◌||◌, length, drop, get_or}
use Rattle.oxt_names.proofs.Lists.{drop_at, drop_end}
use Rattle.oxt_tree.specs.View.{docs_in, part_doc}
use Rattle.oxt_tree.specs.declared.tree.Part.{Part}
use Rattle.oxt_forms.specs.Made.{any_mentions, mentions}

here : (d : List ℕ) (ps : List Part) (i : ℕ) (p : Part) → i < length ps → p ≡ get_or ps i p → any_mentions d (docs_in (drop i ps)) ≡ mentions d (part_doc p) || any_mentions d (docs_in (drop (i + 1) ps))
here d ps i p h e = ap (λ qs. any_mentions d (docs_in qs)) (drop_at ps i p h e)

pub one_more : (whole : Bool) (d : List ℕ) (ps : List Part) (i : ℕ) (p : Part) → i < length ps → p ≡ get_or ps i p → false ≡ mentions d (part_doc p) → whole ≡ any_mentions d (docs_in (drop i ps)) → whole ≡ any_mentions d (docs_in (drop (i + 1) ps))
one_more whole d ps i p h e not so_far = so_far ∙ here d ps i p h e ∙ ap (λ b. b || any_mentions d (docs_in (drop (i + 1) ps))) (sym not)

pub found : (whole : Bool) (d : List ℕ) (ps : List Part) (i : ℕ) (p : Part) → i < length ps → p ≡ get_or ps i p → true ≡ mentions d (part_doc p) → whole ≡ any_mentions d (docs_in (drop i ps)) → true ≡ whole
found whole d ps i p h e is so_far = sym (so_far ∙ here d ps i p h e ∙ ap (λ b. b || any_mentions d (docs_in (drop (i + 1) ps))) (sym is))

pub no_more : (whole : Bool) (d : List ℕ) (ps : List Part) (i : ℕ) → length ps ≤ i → whole ≡ any_mentions d (docs_in (drop i ps)) → false ≡ whole
no_more whole d ps i past so_far = sym (so_far ∙ ap (λ qs. any_mentions d (docs_in qs)) (drop_end ps i past))
