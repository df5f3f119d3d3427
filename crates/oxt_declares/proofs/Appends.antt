-- Lists that grow at their end.
use Rattle.std.proofs.Common.{◌≡◌, ◌∙◌, ap, List, [], ◌∷◌, ◌++◌}
use Rattle.std.proofs.lemmas.List.{map-append}
use Rattle.oxt_declares.specs.Declarations.{declared_view, declared_views}
use Rattle.oxt_declares.specs.declared.declaration.Declaration.{Declaration}

pub one_more : (old new : List Declaration) (d : Declaration) → new ≡ old ++ d ∷ [] → declared_views new ≡ declared_views old ++ declared_view d ∷ []
one_more old new d is = ap declared_views is ∙ map-append declared_view old (d ∷ [])
