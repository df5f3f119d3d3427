-- Lists that grow at their end.
use Rattle.std.proofs.Common.{◌≡◌, ◌∙◌, ap, List, [], ◌∷◌, ◌++◌, append_assoc}
use Rattle.std.proofs.lemmas.List.{map-append}
use Rattle.oxt_scopes.specs.Nestings.{Opened}
use Rattle.oxt_scopes.specs.Views.{opened_view, opened_views}
use Rattle.oxt_scopes.specs.declared.scopes.OpenedScope.{OpenedScope}

pub one_more : (old new : List OpenedScope) (s : OpenedScope) → new ≡ old ++ s ∷ [] → opened_views new ≡ opened_views old ++ opened_view s ∷ []
one_more old new s is = ap opened_views is ∙ map-append opened_view old (s ∷ [])

-- what stands around a scope, the scope, and what stands in it
pub three_more : (old one two three a b : List Opened) (s : Opened) → one ≡ old ++ a → two ≡ one ++ s ∷ [] → three ≡ two ++ b → three ≡ old ++ (a ++ (s ∷ b))
three_more old one two three a b s first second third =
    third ∙ ap (λ v. v ++ b) (second ∙ ap (λ v. v ++ s ∷ []) first)
    ∙ append_assoc (old ++ a) (s ∷ []) b ∙ append_assoc old a (s ∷ b)
