-- The first that the nodes of a document give to a search.
use Rattle.std.specs.Prelude.{List, [], ◌∷◌, Option, None, Some}
use Rattle.oxt_search.specs.All.{all_among, all_in}
use Rattle.oxt_search.specs.Sought.{Sought}
use Rattle.oxt_tree.specs.Doc.{Doc, Docs}

-- the first of a list
abbrev pub first : {A : Type 0} → List A → Option A
first [] = None
first (x ∷ xs) = Some x

-- the first of all that a document gives, which is reached in that state
abbrev pub first_in : {S A : Type 0} → Sought S A → Doc → S → Option A
first_in q d s = first (all_in q d s)

-- the same of documents that stand one after the other
abbrev pub first_among : {S A : Type 0} → Sought S A → Docs → S → Option A
first_among q ds s = first (all_among q ds s)
