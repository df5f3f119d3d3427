-- The names that a pattern binds.
use Rattle.std.specs.Prelude.{ℕ, List, [], ◌∷◌, ◌++◌, map, Bool, ◌||◌, if◌then◌else◌, codes}
use Rattle.std.specs.Str.{bytes_eq}
use Rattle.oxt_grammar.specs.Field.{Field}
use Rattle.oxt_grammar.specs.Places.{same_kind}
use Rattle.oxt_grammar.specs.Rows.{row_of}
use Rattle.oxt_grammar.specs.declared.kind.Kind.TheVariants as kind
use Rattle.oxt_tree.specs.Doc.{Doc, nil, flag, number, text, list, node, Docs, no_docs, doc}
use Rattle.oxt_tree.specs.Fields.{named}
use Rattle.oxt_names.specs.Names.{name_bytes}
use Rattle.oxt_tree.specs.declared.bound.BoundName.{BoundName}

-- the number of a node that is a name, and the name
pub record Bound : Type 0 where
  pub id : ℕ
  pub name : List ℕ

abbrev pub bound_view : BoundName → Bound
bound_view b = record { id = b.node.0; name = name_bytes b.name }

-- the bare name with that number and text
abbrev pub bare_name : ℕ → Doc → List Bound
bare_name i (text t) = record { id = i; name = t } ∷ []
bare_name i d = []

-- A key and a default bind no name.
abbrev pub binds_nothing : Field → Bool
binds_nothing r = bytes_eq r.name (codes "key") || bytes_eq r.name (codes "right")

-- the bare names of a pattern, in the order of the text
abbrev mutual
  pub bound_names : Doc → List Bound
  bound_names nil = []
  bound_names (flag b) = []
  bound_names (number n) = []
  bound_names (text t) = []
  bound_names (list ds) = names_of_each ds
  bound_names (node k i b e ds) =
      if same_kind k kind.BindingIdentifier then bare_name i (named (codes "name") k ds)
      else names_of_fields ds (row_of k)

  -- those of each of them, one after the other
  pub names_of_each : Docs → List Bound
  names_of_each no_docs = []
  names_of_each (doc d ds) = bound_names d ++ names_of_each ds

  -- those of the fields that bind
  pub names_of_fields : Docs → List Field → List Bound
  names_of_fields no_docs rs = []
  names_of_fields (doc d ds) [] = []
  names_of_fields (doc d ds) (r ∷ rs) =
      (if binds_nothing r then [] else bound_names d) ++ names_of_fields ds rs

-- of a list of names, what contracts see
abbrev pub bound_views : List BoundName → List Bound
bound_views bs = map bound_view bs
