-- The calls that a tree owes where hooks leave it as it is.
use Rattle.std.specs.Prelude.{Bool, List, [], ◌∷◌, ◌++◌, if◌then◌else◌, Option, None, Some}
use Rattle.oxt_grammar.specs.Field.{Field}
use Rattle.oxt_grammar.specs.Rows.{row_of}
use Rattle.oxt_grammar.specs.declared.category.Category.{Category}
use Rattle.oxt_tree.specs.Doc.{Doc, nil, flag, number, text, list, node, Docs, no_docs, doc}
use Rattle.oxt_visit.specs.Calls.{Call, visited, in_scope}
use Rattle.oxt_visit.specs.Hooks.{Hooks, is_visited}
use Rattle.oxt_visit.specs.Place.{place_of}

-- the call at a node that is visited, in front of those at its parts
abbrev pub with_visit : Bool → Doc → List Call → List Call
with_visit visited_there d calls = if visited_there then visited d d ∷ calls else calls

-- the calls of what a field holds, where those at each place are given: none where it holds no nodes
abbrev pub of_field : Option Category → (Category → List Call) → List Call
of_field None at = []
of_field (Some p) at = at p

abbrev mutual
  -- the calls of what stands at a place
  pub visits : Hooks → Doc → Category → List Call
  visits h nil p = []
  visits h (flag b) p = []
  visits h (number n) p = []
  visits h (text t) p = []
  visits h (list ds) p = visits_each h ds p
  visits h (node k i b e ds) p = with_visit (is_visited h p (node k i b e ds)) (node k i b e ds) (in_scope h k i (visits_fields h ds (row_of k)))

  -- those of the elements of a list
  pub visits_each : Hooks → Docs → Category → List Call
  visits_each h no_docs p = []
  visits_each h (doc d ds) p = visits h d p ++ visits_each h ds p

  -- those of what the fields of a node hold, by the rows of its kind
  pub visits_fields : Hooks → Docs → List Field → List Call
  visits_fields h no_docs rs = []
  visits_fields h (doc d ds) [] = []
  visits_fields h (doc d ds) (r ∷ rs) = of_field (place_of r.holds) (visits h d) ++ visits_fields h ds rs

-- those of what a node holds
abbrev pub visits_inside : Hooks → Doc → List Call
visits_inside h (node k i b e ds) = in_scope h k i (visits_fields h ds (row_of k))
visits_inside h d = []
