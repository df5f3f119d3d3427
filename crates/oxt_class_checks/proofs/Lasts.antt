-- The last of some parts as a key.
use Rattle.std.proofs.Common.{arith, ℕ, ◌-◌, ◌≡◌, refl, sym, ap, subst, ◌∙◌, List, [], ◌∷◌, length, slice_get, Bool, false, Option, None, Some}
use Rattle.std.specs.Prelude.{⊤}
use Rattle.oxt_class_checks.specs.Keys.{is_alias, last_is_alias}
use Rattle.oxt_fields.specs.Rules.{Rules}
use Rattle.oxt_tree.specs.View.{docs_in, part_doc}
use Rattle.oxt_tree.specs.declared.tree.Part.{Part}

abbrev part_or : Part → Option Part → Part
part_or p None = p
part_or p (Some q) = q

abbrev IsThere : Option Part → Type 0
IsThere None = ⊥
IsThere (Some q) = ⊤

-- The last of some parts is what a walk to the end finds.
last_at : (r : Rules) (p q : Part) (qs : List Part) → Some p ≡ slice_get (q ∷ qs) (length qs) → is_alias r (part_doc p) ≡ last_is_alias r (docs_in (q ∷ qs))
last_at r p q [] e = ap (λ o. is_alias r (part_doc (part_or p o))) e
last_at r p q (s ∷ qs) e = last_at r p s qs e

there_at : (q : Part) (qs : List Part) → IsThere (slice_get (q ∷ qs) (length qs))
there_at q [] = tt
there_at q (s ∷ qs) = there_at s qs

one_less : (q : Part) (qs : List Part) → length (q ∷ qs) - 1 ≡ length qs
one_less q qs = omega arith

pub last_some : (r : Rules) (ps : List Part) (p : Part) (b : Bool) → Some p ≡ slice_get ps (length ps - 1) → b ≡ is_alias r (part_doc p) → b ≡ last_is_alias r (docs_in ps)
last_some r [] p b e is = absurd (subst IsThere e tt)
last_some r (q ∷ qs) p b e is = is ∙ last_at r p q qs (e ∙ ap (slice_get (q ∷ qs)) (one_less q qs))

pub last_none : (r : Rules) (ps : List Part) → None ≡ slice_get ps (length ps - 1) → false ≡ last_is_alias r (docs_in ps)
last_none r [] e = refl
last_none r (q ∷ qs) e = absurd (subst IsThere (sym (e ∙ ap (slice_get (q ∷ qs)) (one_less q qs))) (there_at q qs))

-- the last of the parts, or none
pub ruleset steps = (last_some, last_none)
