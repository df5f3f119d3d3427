-- Functions and classes behind a namespace, one declaration after another.
use Rattle.std.proofs.Common.{◌≡◌, ◌∙◌, sym, ap, ℕ, ◌+◌, ◌<◌, ◌≤◌, List, length, drop, get_or, fold, Bool, true, false, cond, ◌&&◌, ◌||◌, Option, Some, None}
use Rattle.oxt_enum_checks.specs.Clash.{lesser}
use Rattle.oxt_enum_checks.specs.LateBase.{late_from, late_of}
use Rattle.oxt_enum_checks.specs.Places.{Placed}
use Rattle.oxt_enum_checks.specs.Sort.{is_base, is_namespace}
use Rattle.oxt_enum_checks.specs.declared.clash.Emitted.{Emitted}
use Rattle.oxt_enum_checks.specs.declared.blocks.Block.{Block}
use Rattle.oxt_scoping.specs.Scoped.{Scoped}
use Rattle.oxt_names.proofs.Lists.{drop_at, drop_end}

-- ---- the least

-- the least of what is known and of what these blocks give
abbrev pub least_from : Scoped → Placed → Option ℕ → List Block → Option ℕ
least_from s p o bs = fold (λ m b. lesser m (late_of s p b)) o bs

-- no more blocks
pub least_end : (s : Scoped) (p : Placed) (o : Option ℕ) (bs : List Block) (i : ℕ) → length bs ≤ i → least_from s p o (drop i bs) ≡ o
least_end s p o bs i h = ap (least_from s p o) (drop_end bs i h)

-- one more block
pub least_next : (s : Scoped) (p : Placed) (o new : Option ℕ) (bs : List Block) (i : ℕ) (b : Block) → i < length bs → b ≡ get_or bs i b → new ≡ lesser o (late_of s p b)
    → least_from s p o (drop i bs) ≡ least_from s p new (drop (i + 1) bs)
least_next s p o new bs i b h e is = ap (least_from s p o) (drop_at bs i b h e) ∙ ap (λ m. least_from s p m (drop (i + 1) bs)) (sym is)

pub ruleset least_steps = (least_next, least_end)

-- ---- the first of a name

step : (b : Bool) (es : List Emitted) (i : ℕ) (e : Emitted) → i < length es → e ≡ get_or es i e
    → late_from b (drop i es) ≡ cond (b && is_base e.sort) (Some e.place.declaration.0) (late_from (b || is_namespace e.sort) (drop (i + 1) es))
step b es i e within at = ap (late_from b) (drop_at es i e within at)

-- it was found
pub late_found : (whole : Option ℕ) (b : Bool) (es : List Emitted) (i : ℕ) (e : Emitted) → i < length es → e ≡ get_or es i e → (b && is_base e.sort) ≡ true
    → whole ≡ late_from b (drop i es) → Some e.place.declaration.0 ≡ whole
late_found whole b es i e within at holds so_far =
    sym (so_far ∙ step b es i e within at ∙ ap (λ c. cond c (Some e.place.declaration.0) (late_from (b || is_namespace e.sort) (drop (i + 1) es))) holds)

-- one more declaration
pub late_next : (whole : Option ℕ) (b c : Bool) (es : List Emitted) (i : ℕ) (e : Emitted) → i < length es → e ≡ get_or es i e → (b && is_base e.sort) ≡ false → c ≡ (b || is_namespace e.sort)
    → whole ≡ late_from b (drop i es) → whole ≡ late_from c (drop (i + 1) es)
late_next whole b c es i e within at not is so_far =
    so_far ∙ step b es i e within at ∙ ap (λ t. cond t (Some e.place.declaration.0) (late_from (b || is_namespace e.sort) (drop (i + 1) es))) not
    ∙ ap (λ t. late_from t (drop (i + 1) es)) (sym is)

-- no more declarations
pub late_none : (whole : Option ℕ) (b : Bool) (es : List Emitted) (i : ℕ) → length es ≤ i → whole ≡ late_from b (drop i es) → None ≡ whole
late_none whole b es i past so_far = sym (so_far ∙ ap (late_from b) (drop_end es i past))

pub ruleset late_steps = (late_found, late_next, late_none)
