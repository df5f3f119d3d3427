-- Statements with those that wait beside them.
use Rattle.std.specs.Prelude.{ℕ, ◌+◌, List, [], ◌∷◌, ◌++◌, map, length, Bool, false, ◌==◌, if◌then◌else◌, Option, None}
use Rattle.std.specs.List.{list_any}
use Rattle.oxt_tree.specs.Doc.{Doc, node}
use Rattle.oxt_stores.specs.Insertion.{Entry}
use Rattle.oxt_injector.specs.Pending.{same_number, waiting}

-- it is the node with that number
abbrev pub is_numbered : ℕ → Doc → Bool
is_numbered n (node k i b e ds) = same_number i n
is_numbered n d = false

-- what waits for a statement
abbrev pub waiting_for : (ℕ → Option (List Entry)) → Doc → List Entry
waiting_for p (node k i b e ds) = waiting p i
waiting_for p d = []

-- nothing at the number of that statement
abbrev pub without : (ℕ → Option (List Entry)) → Doc → ℕ → Option (List Entry)
without p d n = if is_numbered n d then None else p n

-- The statement among its entries: those in front of the first that stands after, then the
-- statement, then the rest.
abbrev pub around : Doc → List Entry → List Doc
around d [] = d ∷ []
around d (e ∷ es) =
    if e.is_after then d ∷ map (λ f. f.statement) (e ∷ es) else e.statement ∷ around d es

-- each statement among its entries, which the first of several with one number has
abbrev pub placed : List Doc → (ℕ → Option (List Entry)) → List Doc
placed [] p = []
placed (d ∷ ds) p = around d (waiting_for p d) ++ placed ds (without p d)

-- how many entries the statements find
abbrev pub found : (ℕ → Option (List Entry)) → List Doc → ℕ
found p [] = 0
found p (d ∷ ds) = length (waiting_for p d) + found p ds

-- nothing at the numbers of the statements
abbrev pub without_all : (ℕ → Option (List Entry)) → List Doc → ℕ → Option (List Entry)
without_all p ds n = if list_any (is_numbered n) ds then None else p n

-- What still waits once the statements have their entries; all of it where they found none.
abbrev pub left : (ℕ → Option (List Entry)) → List Doc → ℕ → Option (List Entry)
left p ds n = if found p ds == 0 then p n else without_all p ds n
