-- Loops that do one thing after the other.
use Rattle.std.proofs.Common.{◌≡◌, ◌∙◌, sym, ap, ℕ, ◌+◌, ◌<◌, ◌≤◌, List, length, drop, get_or, map, fold}
use Rattle.oxt_facts.specs.Owners.{Owners}
use Rattle.oxt_resolve.specs.Groups.{First, with_uses, with_used as with_group}
use Rattle.oxt_resolve.specs.Resolved.{all_used, with_used}
use Rattle.oxt_scopes.specs.OwnedViews.{owned_view, owned_views}
use Rattle.oxt_scopes.specs.declared.owners.OwnedName.{OwnedName}
use Rattle.oxt_scoping.specs.Scoped.{Scoped}
use Rattle.oxt_names.proofs.Lists.{drop_at, drop_end}

-- one more is done
pub fold_next : {A B S : Type 0} (f : S → B → S) (v : A → B) (xs : List A) (i : ℕ) (x : A) (whole s t : S) → i < length xs → x ≡ get_or xs i x
    → whole ≡ fold f s (map v (drop i xs)) → t ≡ f s (v x) → whole ≡ fold f t (map v (drop (i + 1) xs))
fold_next f v xs i x whole s t h at so_far done =
    so_far ∙ ap (λ ys. fold f s (map v ys)) (drop_at xs i x h at) ∙ ap (λ u. fold f u (map v (drop (i + 1) xs))) (sym done)

-- all is done
pub fold_end : {A B S : Type 0} (f : S → B → S) (v : A → B) (xs : List A) (i : ℕ) (whole s : S) → length xs ≤ i → whole ≡ fold f s (map v (drop i xs)) → s ≡ whole
fold_end f v xs i whole s h so_far = sym (so_far ∙ ap (λ ys. fold f s (map v ys)) (drop_end xs i h))

-- one reference more is made
pub used_next : (os : List OwnedName) (i : ℕ) (o : OwnedName) (s t : Scoped) → i < length os → o ≡ get_or os i o → t ≡ with_used s (owned_view o)
    → all_used (owned_views (drop i os)) s ≡ all_used (owned_views (drop (i + 1) os)) t
used_next os i o s t h at done = ap (λ xs. all_used (owned_views xs) s) (drop_at os i o h at) ∙ ap (λ u. all_used (owned_views (drop (i + 1) os)) u) (sym done)

pub used_end : (os : List OwnedName) (i : ℕ) (s : Scoped) → length os ≤ i → all_used (owned_views (drop i os)) s ≡ s
used_end os i s h = ap (λ xs. all_used (owned_views xs) s) (drop_end os i h)

pub ruleset use_steps = (used_next, used_end)

-- one group more is put
pub grouped_next : (f : First) (ns : List OwnedName) (i : ℕ) (o : OwnedName) (s t : Owners) → i < length ns → o ≡ get_or ns i o → t ≡ with_group f s (owned_view o)
    → with_uses f (owned_views (drop i ns)) s ≡ with_uses f (owned_views (drop (i + 1) ns)) t
grouped_next f ns i o s t h at done = ap (λ xs. with_uses f (owned_views xs) s) (drop_at ns i o h at) ∙ ap (λ u. with_uses f (owned_views (drop (i + 1) ns)) u) (sym done)

pub grouped_end : (f : First) (ns : List OwnedName) (i : ℕ) (s : Owners) → length ns ≤ i → with_uses f (owned_views (drop i ns)) s ≡ s
grouped_end f ns i s h = ap (λ xs. with_uses f (owned_views xs) s) (drop_end ns i h)

pub ruleset group_steps = (grouped_next, grouped_end)
