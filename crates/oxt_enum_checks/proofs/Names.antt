-- The table of the names of declarations, and numbers of nodes.
use Rattle.std.proofs.Common.{◌≡◌, ◌∙◌, ap, ℕ, List, map, Vec, Global, Result, Ok, Err, IfOk}
use Rattle.oxt_enum_checks.specs.Places.{Placed, place_at}
use Rattle.oxt_enum_checks.specs.declared.places.Place.{Place}
use Rattle.oxt_names.specs.declared.ids.NodeId.{NodeId}

-- A table that has of each number what the list has is the list's.
pub same_places : (es : List (ℕ × Place)) (p : Placed) → ((n : ℕ) → place_at es n ≡ p n) → place_at es ≡ p
same_places es p h = λ j n. h n j

-- What a call gives is the same of what is equal.
pub ok_same : {A E V : Type 0} (r : Result A E) (view : A → V) (x y : V) → x ≡ y → IfOk r (λ a. view a ≡ x) → IfOk r (λ a. view a ≡ y)
ok_same (Ok a) view x y e h = h ∙ e
ok_same (Err f) view x y e h = h

-- The numbers of nodes that a call gives.
pub ok_numbers : {E : Type 0} (r : Result (Vec NodeId Global) E) (ms : List NodeId) (ns : List ℕ) → map (λ (n : NodeId). n.0) ms ≡ ns → IfOk r (λ v. v.items ≡ ms) → IfOk r (λ v. map (λ (n : NodeId). n.0) v.items ≡ ns)
ok_numbers (Ok v) ms ns e h = ap (map (λ (n : NodeId). n.0)) h ∙ e
ok_numbers (Err f) ms ns e h = h
