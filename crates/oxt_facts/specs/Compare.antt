-- Comparing words.
use Rattle.std.specs.Prelude.{ℕ, ◌≡◌, ◌≢◌, ◌==◌, List, [], ◌∷◌, Bool, true, false, not, ◌&&◌, if◌then◌else◌, Option, None, Some, take, slice_get}
use Rattle.oxt_tree.specs.Doc.{Doc, nil, flag, number, text, list, node}
use Rattle.oxt_tree.specs.Fields.{is_nil, is_text}
use Rattle.oxt_facts.specs.Entry.{Entry}

-- that flag
abbrev pub is_flag : Bool → Doc → Bool
is_flag b (flag c) = if b then c else not c
is_flag b d = false

-- that number
abbrev pub is_number : ℕ → Doc → Bool
is_number n (number m) = m == n
is_number n d = false

-- two texts, numbers, flags or absent ones that are one
abbrev pub same_atom : Doc → Doc → Bool
same_atom nil d = is_nil d
same_atom (flag b) d = is_flag b d
same_atom (number n) d = is_number n d
same_atom (text t) d = is_text t d
same_atom (list ds) d = false
same_atom (node k i b e ds) d = false

-- the same, of two lists
abbrev pub same_atoms : List Doc → List Doc → Bool
same_atoms [] [] = true
same_atoms [] (d ∷ ds) = false
same_atoms (c ∷ cs) [] = false
same_atoms (c ∷ cs) (d ∷ ds) = same_atom c d && same_atoms cs ds

-- The first place at which two words differ, one of them having ended included; none where they are
-- one.
abbrev pub IsFirstDifference : List Entry → List Entry → Option ℕ → Type 0
IsFirstDifference a b None = a ≡ b
IsFirstDifference a b (Some i) = (take i a ≡ take i b) × (slice_get a i ≢ slice_get b i)

-- an item without the group of its name
abbrev pub without_group : Entry → Entry
without_group e = record e { group = None }

-- Both are there, and one but for the groups of their names.
abbrev pub IsOfOwners : Option Entry → Option Entry → Type 0
IsOfOwners None b = ⊥
IsOfOwners (Some a) None = ⊥
IsOfOwners (Some a) (Some b) = without_group a ≡ without_group b
