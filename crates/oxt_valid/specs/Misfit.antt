-- The first place at which a document is no tree of the grammar, in the order of checking: what a
-- node is, where it stands in the source, its fields in the order of the rows, and its condition.
use Rattle.std.specs.Prelude.{ℕ, ◌+◌, ◌^◌, List, [], ◌∷◌, Bool, true, false, nat_lt, Option, None, Some, option_map, codes}
use Rattle.std.specs.Fmt.{decimal}
use Rattle.oxt_grammar.specs.Context.{setting_of}
use Rattle.oxt_grammar.specs.Field.{Field}
use Rattle.oxt_grammar.specs.Places.{kind_in, narrow, element_of, allows_null, allows_flag, allows_number, category_of}
use Rattle.oxt_grammar.specs.Rows.{row_of}
use Rattle.oxt_grammar.specs.declared.category.Category.{Category}
use Rattle.oxt_grammar.specs.declared.category.Category.TheVariants as category
use Rattle.oxt_grammar.specs.declared.context.Setting.{Setting}
use Rattle.oxt_grammar.specs.declared.context.Setting.TheVariants.{Elsewhere}
use Rattle.oxt_grammar.specs.declared.holds.Holds.{Holds}
use Rattle.oxt_grammar.specs.declared.holds.Holds.TheVariants as holds
use Rattle.oxt_grammar.specs.declared.kind.Kind.{Kind}
use Rattle.oxt_tree.specs.Doc.{Doc, nil, flag, number, text, list, node, Docs, no_docs, doc}
use Rattle.oxt_valid.specs.Pointer.{at_key}
use Rattle.oxt_valid.specs.Condition.{fault}
use Rattle.oxt_valid.specs.Valid.{allows_text}

-- the value itself is wrong where it is not allowed
abbrev pub unless : Bool → Option (List ℕ)
unless true = None
unless false = Some []

-- the place, seen from what has the value at a key or an index
abbrev pub below : List ℕ → Option (List ℕ) → Option (List ℕ)
below name place = option_map (at_key name) place

-- the earlier place, if there is one, and else the later one
abbrev pub or_else : Option (List ℕ) → Option (List ℕ) → Option (List ℕ)
or_else None later = later
or_else (Some place) later = Some place

-- the place of what a node is and where it stands, where the field holds nodes of the category
abbrev pub head_misfit : Option Category → Kind → ℕ → ℕ → Option (List ℕ)
head_misfit None k b e = Some []
head_misfit (Some c) k b e =
    or_else (below (codes "type") (unless (kind_in c k)))
    (or_else (below (codes "start") (unless (nat_lt b (2 ^ 32))))
    (below (codes "end") (unless (nat_lt e (2 ^ 32)))))

-- the place of the first element that does not fit, where the field holds a list
abbrev pub list_misfit : Option Holds → (Holds → Option (List ℕ)) → Option (List ℕ)
list_misfit None elements = Some []
list_misfit (Some h) elements = elements h

-- the field at which the node fails to meet its condition, as a place
abbrev pub condition_misfit : Option (List ℕ) → Option (List ℕ)
condition_misfit None = None
condition_misfit (Some name) = Some (at_key name [])

-- The place in a document that stands where a field holds `h`, in a node that stands in `s`.
abbrev mutual
  pub misfit : Doc → Setting → Holds → Option (List ℕ)
  misfit nil s h = unless (allows_null h)
  misfit (flag b) s h = unless (allows_flag h)
  misfit (number n) s h = unless (allows_number h n)
  misfit (text t) s h = unless (allows_text h t)
  misfit (list ds) s h = list_misfit (element_of h) (misfit_in_each ds s 0)
  misfit (node k i b e ds) s h =
      or_else (head_misfit (category_of h) k b e)
      (or_else (misfit_in_fields ds s (setting_of k) (row_of k)) (condition_misfit (fault s k ds)))

  -- in the fields of the rows: one may be missing, and one too many is the node's own fault
  pub misfit_in_fields : Docs → Setting → Setting → List Field → Option (List ℕ)
  misfit_in_fields no_docs s inner [] = None
  misfit_in_fields no_docs s inner (r ∷ rs) = Some (at_key r.name [])
  misfit_in_fields (doc d ds) s inner [] = Some []
  misfit_in_fields (doc d ds) s inner (r ∷ rs) =
      or_else (below r.name (misfit d inner (narrow s r.holds))) (misfit_in_fields ds s inner rs)

  -- in the elements of a list from an index on
  pub misfit_in_each : Docs → Setting → ℕ → Holds → Option (List ℕ)
  misfit_in_each no_docs s i h = None
  misfit_in_each (doc d ds) s i h =
      or_else (below (decimal i) (misfit d s h)) (misfit_in_each ds s (i + 1) h)

-- the place in a whole tree; none where it is one of the grammar
abbrev pub first_misfit : Doc → Option (List ℕ)
first_misfit d = misfit d Elsewhere (holds.Node category.Program)
