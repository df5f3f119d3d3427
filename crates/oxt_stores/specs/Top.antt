-- The top of a stack, which is a list whose last element is on top.
use Rattle.std.specs.Prelude.{List, [], ◌∷◌, Option, None, Some, slice_set, length, ◌-◌}

-- what the top entry holds; none where it is empty or there is no entry
abbrev pub top : {T : Type 0} → List (Option T) → Option T
top [] = None
top (e ∷ []) = e
top (e ∷ f ∷ es) = top (f ∷ es)

-- with w on top in place of the last entry
abbrev pub with_top : {T : Type 0} → List (Option T) → T → List (Option T)
with_top es w = slice_set es (length es - 1) (Some w)
