-- Statements that wait to stand before or after others.
use Rattle.std.specs.Prelude.{◌≡◌, List, [], ◌∷◌, ◌++◌, map, Bool, true, false, if◌then◌else◌}
use Rattle.std.specs.List.{list_any}
use Rattle.oxt_tree.specs.Doc.{Doc}
use Rattle.oxt_tree.specs.View.{part_doc}
use Rattle.oxt_tree.specs.declared.tree.Part.{Part}
use Rattle.oxt_stores.specs.declared.insertions.Insertions.{Insertions}

-- a statement that is to stand after another one, or before it
pub record Entry : Type 0 where
  pub is_after : Bool
  pub statement : Doc

abbrev pub before_it : Doc → Entry
before_it d = record { is_after = false; statement = d }

abbrev pub after_it : Doc → Entry
after_it d = record { is_after = true; statement = d }

-- the documents of statements
abbrev pub docs : List Part → List Doc
docs ps = map part_doc ps

-- what waits for one statement, in order
abbrev pub entries : Insertions → List Entry
entries i = map before_it (docs i.before.items) ++ map after_it (docs i.after.items)

-- the entry as the last of those in front of the first that stands after
abbrev pub last_before : Entry → List Entry → List Entry
last_before e [] = e ∷ []
last_before e (f ∷ fs) = if f.is_after then e ∷ f ∷ fs else f ∷ last_before e fs

-- The entries of `more` behind those of `es`: behind one that stands after, all stand after.
abbrev pub followed : List Entry → List Entry → List Entry
followed es more = es ++ (if list_any (λ e. e.is_after) es then map (λ e. after_it e.statement) more else more)

-- what has the entries of both, one list behind the other
abbrev pub IsJoined : Insertions → Insertions → Insertions → Type 0
IsJoined i more j = entries j ≡ followed (entries i) (entries more)
