-- The elements of a class, one at a time, and the last of some parts.
use Rattle.std.proofs.Common.{arith, ℕ, ◌+◌, ◌<◌, ◌≤◌, ◌-◌, ◌≡◌, refl, sym, ap, subst, ◌∙◌, List, [], ◌∷◌, length, drop, get_or, slice_get, Option, None, Some}
use Rattle.std.specs.Prelude.{⊤}
use Rattle.oxt_names.proofs.Lists.{drop_at, drop_end}
use Rattle.oxt_tree.specs.View.{docs_in, part_doc}
use Rattle.oxt_tree.specs.declared.tree.Part.{Part}
use Rattle.oxt_facts.specs.Facts.{Known}
use Rattle.oxt_facts.specs.Privates.{Privates}
use Rattle.oxt_facts.specs.Inside.{last_key, made_key, privates_of, private_name, setter_name, with_made, with_name}

pub each_end : (f : Known) (c : Privates) (ps : List Part) (i : ℕ) → length ps ≤ i → privates_of f (docs_in (drop i ps)) c ≡ c
each_end f c ps i h = ap (λ qs. privates_of f (docs_in qs) c) (drop_end ps i h)

pub each_next : (f : Known) (before after : Privates) (ps : List Part) (i : ℕ) (q : Part) → i < length ps → q ≡ get_or ps i q
    → after ≡ with_made (setter_name f (part_doc q)) (with_name (private_name (part_doc q)) before)
    → privates_of f (docs_in (drop i ps)) before ≡ privates_of f (docs_in (drop (i + 1) ps)) after
each_next f before after ps i q h e made =
    ap (λ qs. privates_of f (docs_in qs) before) (drop_at ps i q h e)
    ∙ ap (privates_of f (docs_in (drop (i + 1) ps))) (sym made)

-- the steps of the loop over the elements
pub ruleset each_steps = (each_next, each_end)

abbrev part_or : Part → Option Part → Part
part_or p None = p
part_or p (Some q) = q

abbrev IsThere : Option Part → Type 0
IsThere None = ⊥
IsThere (Some q) = ⊤

-- The last of some parts is what a walk to the end finds.
last_at : (f : Known) (p q : Part) (qs : List Part) → Some p ≡ slice_get (q ∷ qs) (length qs) → made_key f (part_doc p) ≡ last_key f (docs_in (q ∷ qs))
last_at f p q [] e = ap (λ o. made_key f (part_doc (part_or p o))) e
last_at f p q (s ∷ qs) e = last_at f p s qs e

there_at : (q : Part) (qs : List Part) → IsThere (slice_get (q ∷ qs) (length qs))
there_at q [] = tt
there_at q (s ∷ qs) = there_at s qs

one_less : (q : Part) (qs : List Part) → length (q ∷ qs) - 1 ≡ length qs
one_less q qs = omega arith

pub last_some : (f : Known) (ps : List Part) (p : Part) (r : Option (List ℕ)) → Some p ≡ slice_get ps (length ps - 1) → r ≡ made_key f (part_doc p) → r ≡ last_key f (docs_in ps)
last_some f [] p r e is = absurd (subst IsThere e tt)
last_some f (q ∷ qs) p r e is = is ∙ last_at f p q qs (e ∙ ap (slice_get (q ∷ qs)) (one_less q qs))

pub last_none : (f : Known) (ps : List Part) → None ≡ slice_get ps (length ps - 1) → None ≡ last_key f (docs_in ps)
last_none f [] e = refl
last_none f (q ∷ qs) e = absurd (subst IsThere (sym (e ∙ ap (slice_get (q ∷ qs)) (one_less q qs))) (there_at q qs))

-- the last of the parts, or none
pub ruleset last_steps = (last_some, last_none)
