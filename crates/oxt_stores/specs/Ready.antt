-- What a statement that is to be made needs.
use Rattle.std.specs.Prelude.{ℕ, ◌≡◌, ◌≤◌, List, [], ◌∷◌, Option, None, Some, vec_capacity}
use Rattle.oxt_tree.specs.Doc.{Doc}
use Rattle.oxt_stores.specs.Frame.{declaration}
use Rattle.oxt_stores.specs.declared.make.Blank.{Blank}

-- a number and room for its fields
pub record IsEmptyBlank (b : Blank) : Type 0 where
  pub empty : b.parts.items ≡ []
  pub room : 3 ≤ vec_capacity b.parts

-- there where it is needed
abbrev pub IsBlank : List Doc → Option Blank → Type 0
IsBlank [] b = b ≡ None
IsBlank (d ∷ ds) None = ⊥
IsBlank (d ∷ ds) (Some b) = IsEmptyBlank b

-- there, with that number, where there are declarators
abbrev pub IsReady : ℕ → List Doc → Option Blank → Type 0
IsReady n [] b = b ≡ None
IsReady n (d ∷ ds) None = ⊥
IsReady n (d ∷ ds) (Some b) = (b.id.0 ≡ n) × IsEmptyBlank b

-- the statement for which it is there
abbrev pub blank_statement : Option Blank → List ℕ → List Doc → Option Doc
blank_statement None word ds = None
blank_statement (Some b) word ds = Some (declaration b.id.0 word ds)
