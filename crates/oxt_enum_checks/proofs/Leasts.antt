-- The name of the least number, one after another.
use Rattle.std.proofs.Common.{◌≡◌, ◌∙◌, ap, sym, ℕ, ◌+◌, ◌<◌, ◌≤◌, List, length, get_or, drop, fold, Option}
use Rattle.oxt_enum_checks.specs.Shadows.{Shadow, lesser, shadow_view, shadow_views}
use Rattle.oxt_enum_checks.specs.declared.shadowed.ShadowedName.{ShadowedName}
use Rattle.oxt_names.proofs.Lists.{drop_at, drop_end}

-- one name more
pub least_more : (o o' : Option Shadow) (ns : List ShadowedName) (i : ℕ) (n : ShadowedName) → i < length ns → n ≡ get_or ns i n → o' ≡ lesser o (shadow_view n) → fold lesser o (shadow_views (drop i ns)) ≡ fold lesser o' (shadow_views (drop (i + 1) ns))
least_more o o' ns i n within at is = ap (λ xs. fold lesser o (shadow_views xs)) (drop_at ns i n within at) ∙ ap (λ p. fold lesser p (shadow_views (drop (i + 1) ns))) (sym is)

-- no names more
pub least_done : (o : Option Shadow) (ns : List ShadowedName) (i : ℕ) → length ns ≤ i → fold lesser o (shadow_views (drop i ns)) ≡ o
least_done o ns i past = ap (λ xs. fold lesser o (shadow_views xs)) (drop_end ns i past)

pub ruleset steps = (least_more, least_done)
