-- Where a node stands in a document, as a JSON pointer.
use Rattle.std.specs.Prelude.{ℕ, ◌+◌, List, [], ◌∷◌, ◌==◌, if◌then◌else◌, Option, None, Some, option_map}
use Rattle.std.specs.Fmt.{decimal}
use Rattle.std.specs.Option.{option_or}
use Rattle.oxt_grammar.specs.Field.{Field}
use Rattle.oxt_grammar.specs.Rows.{row_of}
use Rattle.oxt_tree.specs.Doc.{Doc, nil, flag, number, text, list, node, Docs, no_docs, doc}
use Rattle.oxt_valid.specs.Pointer.{at_key}

-- The place in a document of the first node with the number `n`: a node stands before those in its fields, and
-- these in the order of the rows.
abbrev mutual
  pub place_in : Doc → ℕ → Option (List ℕ)
  place_in nil n = None
  place_in (flag b) n = None
  place_in (number m) n = None
  place_in (text t) n = None
  place_in (list ds) n = place_among ds n 0
  place_in (node k i b e ds) n = if i == n then Some [] else place_below ds n (row_of k)

  -- in the elements of a list from an index on
  pub place_among : Docs → ℕ → ℕ → Option (List ℕ)
  place_among no_docs n i = None
  place_among (doc d ds) n i =
      option_or (option_map (at_key (decimal i)) (place_in d n)) (place_among ds n (i + 1))

  -- in the fields of the rows; what has no row has no name, and so no place
  pub place_below : Docs → ℕ → List Field → Option (List ℕ)
  place_below no_docs n rs = None
  place_below (doc d ds) n [] = None
  place_below (doc d ds) n (r ∷ rs) =
      option_or (option_map (at_key r.name) (place_in d n)) (place_below ds n rs)

-- the same, of a whole tree
abbrev pub place_of : ℕ → Doc → Option (List ℕ)
place_of n d = place_in d n
