-- The class declarations of a document that are not erased, where decorators have their older meaning.
use Rattle.std.specs.Prelude.{ℕ, List, [], ◌∷◌, ◌++◌, Bool, if◌then◌else◌, codes}
use Rattle.std.specs.Str.{bytes_eq}
use Rattle.oxt_grammar.specs.Field.{Field}
use Rattle.oxt_grammar.specs.Places.{same_kind}
use Rattle.oxt_grammar.specs.Rows.{row_of}
use Rattle.oxt_grammar.specs.declared.kind.Kind.{Kind}
use Rattle.oxt_grammar.specs.declared.kind.Kind.TheVariants as kind
use Rattle.oxt_tree.specs.Doc.{Doc, nil, flag, number, text, list, node, Docs, no_docs, doc}
use Rattle.oxt_declares.specs.Dropped.{is_declared_field, is_dropped_by}

-- the node itself, if its kind is that of a class declaration
abbrev pub class_itself : Kind → Doc → List Doc
class_itself k d = if same_kind k kind.ClassDeclaration then d ∷ [] else []

-- All that are in a document: a node before those in it. Nothing in what is erased is one, but in the decorators of a field
-- that is only declared.
abbrev mutual
  pub classes_in : Doc → List Doc
  classes_in nil = []
  classes_in (flag b) = []
  classes_in (number n) = []
  classes_in (text t) = []
  classes_in (list ds) = classes_among ds
  classes_in (node k i b e ds) =
      if is_dropped_by k ds
      then (if is_declared_field k ds then classes_at ds (row_of k) (codes "decorators") else [])
      else class_itself k (node k i b e ds) ++ classes_among ds

  -- the same of documents that stand one after the other
  pub classes_among : Docs → List Doc
  classes_among no_docs = []
  classes_among (doc d ds) = classes_in d ++ classes_among ds

  -- the same of the field of that name alone
  pub classes_at : Docs → List Field → List ℕ → List Doc
  classes_at no_docs rs name = []
  classes_at (doc d ds) [] name = []
  classes_at (doc d ds) (r ∷ rs) name = if bytes_eq r.name name then classes_in d else classes_at ds rs name
