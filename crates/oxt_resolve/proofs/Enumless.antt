-- Scopes that declare nothing of enums tell nothing of them.
use Rattle.std.proofs.Common.{◌≡◌, ◌∙◌, refl, ap, ℕ, List, [], ◌∷◌, Bool, true, false, ◌||◌, true≢false, sym}
use Rattle.std.specs.List.{list_any}
use Rattle.std.specs.Prelude.{fold}
use Rattle.oxt_declares.specs.Declarations.{declared_view, declared_views}
use Rattle.oxt_declares.specs.declared.declaration.Declaration.{Declaration}
use Rattle.oxt_resolve.specs.Enumless.{declares_enum, is_enum_part, is_of_enum}
use Rattle.oxt_resolve.specs.Resolved.{Values, all_enums, enum_as, part_of, with_enum}
use Rattle.oxt_resolve.specs.declared.enums.EnumPart.{EnumPart}
use Rattle.oxt_resolve.specs.declared.enums.EnumPart.TheVariants as part
use Rattle.oxt_scopes.specs.Views.{opened_views}
use Rattle.oxt_scopes.specs.declared.scopes.OpenedScope.{OpenedScope}
use Rattle.oxt_scoping.specs.Scoped.{Scoped}

neither : (a b : Bool) → (a || b) ≡ false → (a ≡ false) × (b ≡ false)
neither true b h = absurd (true≢false h)
neither false b h = (refl, h)

no_part : (v : Values) (n : ℕ) (s : Scoped) (d : Declaration) → is_of_enum d.sort ≡ false → with_enum v n s (declared_view d) ≡ s
no_part v n s d h = by (part_of d.sort) h
  where
    by : (p : EnumPart) → is_enum_part p ≡ false → enum_as v n (declared_view d) p s ≡ s
    by part.Block e = absurd (true≢false e)
    by part.Member e = absurd (true≢false e)
    by part.Neither e = refl

no_parts : (v : Values) (n : ℕ) (s : Scoped) (ds : List Declaration) → list_any (λ d. is_of_enum d.sort) ds ≡ false → fold (with_enum v n) s (declared_views ds) ≡ s
no_parts v n s [] h = refl
no_parts v n s (d ∷ ds) h =
    let apart = neither (is_of_enum d.sort) (list_any (λ d. is_of_enum d.sort) ds) h in
    ap (λ t. fold (with_enum v n) t (declared_views ds)) (no_part v n s d apart.0) ∙ no_parts v n s ds apart.1

-- where no scope declares a block or a member of an enum, nothing is told
pub no_enums : (v : Values) (xs : List OpenedScope) (s : Scoped) → list_any declares_enum xs ≡ false → s ≡ all_enums v (opened_views xs) s
no_enums v [] s h = refl
no_enums v (x ∷ xs) s h =
    let apart = neither (declares_enum x) (list_any declares_enum xs) h in
    let alone = no_parts v x.number.0 s x.declarations.items apart.0 in
    no_enums v xs s apart.1 ∙ ap (λ t. all_enums v (opened_views xs) t) (sym alone)
