-- Parts at a place.
use Rattle.std.proofs.Common.{◌≡◌, refl, ℕ, zero, suc, ◌<◌, ◌≤◌, List, [], ◌∷◌, length, get_or, ap, arith}
use Rattle.std.specs.List.{slice_get}
use Rattle.oxt_tree.specs.Doc.{nil}
use Rattle.oxt_tree.specs.View.{doc_of_part, part_doc}
use Rattle.oxt_tree.specs.declared.tree.Part.{Part}

-- there is a part at the place
pub lent_at : (ps : List Part) (i : ℕ) (p : Part) → i < length ps → p ≡ get_or ps i p → part_doc p ≡ doc_of_part (slice_get ps i)
lent_at [] i p lt here = absurd (omega arith)
lent_at (q ∷ ps) zero p lt here = ap part_doc here
lent_at (q ∷ ps) (suc i) p lt here = lent_at ps i p (omega arith) here

-- there is none
pub lent_beyond : (ps : List Part) (i : ℕ) → length ps ≤ i → nil ≡ doc_of_part (slice_get ps i)
lent_beyond [] i beyond = refl
lent_beyond (q ∷ ps) zero beyond = absurd (omega arith)
lent_beyond (q ∷ ps) (suc i) beyond = lent_beyond ps i (omega arith)
