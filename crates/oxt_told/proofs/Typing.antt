-- Types of parameters, one after the other.
use Rattle.std.proofs.Common.{◌≡◌, ◌∙◌, sym, ap, ℕ, ◌+◌, ◌<◌, ◌≤◌, List, [], ◌∷◌, ◌++◌, length, drop, get_or, append_assoc, Option, None}
use Rattle.std.proofs.lemmas.List.{append-nil, map-append}
use Rattle.oxt_facts.specs.Told.{Typed, type_view}
use Rattle.oxt_facts.specs.declared.told.ToldType.{ToldType}
use Rattle.oxt_fields.specs.Rules.{Rules}
use Rattle.oxt_metadata.specs.Typings.{Source, typing_in}
use Rattle.oxt_told.specs.Metadata.{rest_by, type_told, types_told}
use Rattle.oxt_names.proofs.Lists.{drop_at, drop_end}
use Rattle.oxt_tree.specs.Doc.{Doc}
use Rattle.oxt_tree.specs.View.{docs_in, part_doc}
use Rattle.oxt_tree.specs.declared.tree.Part.{Part}
use Rattle.std.specs.Prelude.{map}

-- one type more
pub one_typed : (old new : List ToldType) (t : ToldType) → new ≡ old ++ t ∷ [] → map type_view new ≡ map type_view old ++ type_view t ∷ []
one_typed old new t is = ap (map type_view) is ∙ map-append type_view old (t ∷ [])

pub type_more : (r : Rules) (old new : List Typed) (ps : List Part) (i : ℕ) (p : Part) (x : Source) (t : Typed) → i < length ps → p ≡ get_or ps i p
    → x ≡ typing_in (part_doc p) → t ≡ type_told r x → new ≡ old ++ t ∷ []
    → old ++ types_told r (docs_in (drop i ps)) ≡ new ++ types_told r (docs_in (drop (i + 1) ps))
type_more r old new ps i p x t h e has told is =
    ap (λ rest. old ++ types_told r (docs_in rest)) (drop_at ps i p h e)
    ∙ ap (λ y. old ++ y ∷ types_told r (docs_in (drop (i + 1) ps))) (sym (told ∙ ap (type_told r) has))
    ∙ sym (append_assoc old (t ∷ []) (types_told r (docs_in (drop (i + 1) ps))))
    ∙ ap (λ ts. ts ++ types_told r (docs_in (drop (i + 1) ps))) (sym is)

pub type_done : (r : Rules) (old : List Typed) (ps : List Part) (i : ℕ) → length ps ≤ i → old ++ types_told r (docs_in (drop i ps)) ≡ old
type_done r old ps i h = ap (λ rest. old ++ types_told r (docs_in rest)) (drop_end ps i h) ∙ append-nil old

pub ruleset type_steps = (one_typed, type_more, type_done)

pub rest_none : (r : Rules) (old : List Typed) (o : Option Doc) → None ≡ o → old ≡ old ++ rest_by r o
rest_none r old o is = sym (append-nil old) ∙ ap (λ p. old ++ rest_by r p) is

pub ruleset rest_steps = (one_typed, rest_none)

pub both : (empty mid new first rest : List Typed) → empty ≡ [] → mid ≡ empty ++ first → new ≡ mid ++ rest → new ≡ first ++ rest
both empty mid new first rest none more is = is ∙ ap (λ ts. ts ++ rest) (more ∙ ap (λ ts. ts ++ first) none)

pub ruleset both_told = (both)
