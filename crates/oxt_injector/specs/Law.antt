-- Where insertions end up.
use Rattle.std.specs.Prelude.{ℕ, ◌≡◌, ⊤, List, [], ◌∷◌, ◌++◌, map, Bool, false, if◌then◌else◌, Option}
use Rattle.std.specs.List.{flat_map, list_any}
use Rattle.oxt_tree.specs.Doc.{Doc, node}
use Rattle.oxt_stores.specs.Insertion.{Entry, after_it, before_it, last_before}
use Rattle.oxt_injector.specs.Placed.{is_numbered, placed, waiting_for}

-- the statements in front of the first that stands after
abbrev pub befores : List Entry → List Doc
befores [] = []
befores (e ∷ es) = if e.is_after then [] else e.statement ∷ befores es

-- that one and those behind it
abbrev pub afters : List Entry → List Doc
afters [] = []
afters (e ∷ es) = if e.is_after then map (λ f. f.statement) (e ∷ es) else afters es

-- both are statements with one number
abbrev pub shares_number : Doc → Doc → Bool
shares_number d (node k i b e ds) = is_numbered i d
shares_number d e = false

-- no two of the statements have one number
abbrev pub NumbersDiffer : List Doc → Type 0
NumbersDiffer [] = ⊤
NumbersDiffer (d ∷ ds) = (list_any (shares_number d) ds ≡ false) × NumbersDiffer ds

-- a statement behind those before it and in front of those after it
abbrev pub among : (ℕ → Option (List Entry)) → Doc → List Doc
among p d = befores (waiting_for p d) ++ d ∷ afters (waiting_for p d)

-- Statements whose numbers differ each stand among their own insertions, in their old order.
abbrev pub EachAmongItsOwn : Type 0
EachAmongItsOwn = (ds : List Doc) (p : ℕ → Option (List Entry)) → NumbersDiffer ds → placed ds p ≡ flat_map (among p) ds

-- A statement that is put before another is the last of those before it.
abbrev pub OneGoesLastBefore : Type 0
OneGoesLastBefore = (d : Doc) (es : List Entry) → (befores (last_before (before_it d) es) ≡ befores es ++ d ∷ []) × (afters (last_before (before_it d) es) ≡ afters es)

-- A statement that is put after another is the last of those after it.
abbrev pub OneGoesLastAfter : Type 0
OneGoesLastAfter = (d : Doc) (es : List Entry) → (befores (es ++ after_it d ∷ []) ≡ befores es) × (afters (es ++ after_it d ∷ []) ≡ afters es ++ d ∷ [])

-- Many that are put before a statement are the first of those before it.
abbrev pub ManyGoFirstBefore : Type 0
ManyGoFirstBefore = (ds : List Doc) (es : List Entry) → (befores (map before_it ds ++ es) ≡ ds ++ befores es) × (afters (map before_it ds ++ es) ≡ afters es)

-- Many that are put after a statement are the last of those after it.
abbrev pub ManyGoLastAfter : Type 0
ManyGoLastAfter = (ds : List Doc) (es : List Entry) → (befores (es ++ map after_it ds) ≡ befores es) × (afters (es ++ map after_it ds) ≡ afters es ++ ds)
