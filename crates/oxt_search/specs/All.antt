-- All that the nodes of a document give to a search, in the order of the text.
use Rattle.std.specs.Prelude.{ℕ, List, [], ◌∷◌, ◌++◌, if◌then◌else◌, Option, None, Some}
use Rattle.std.specs.Str.{bytes_eq}
use Rattle.oxt_search.specs.Sought.{Sought}
use Rattle.oxt_tree.specs.declared.inside.Inside.{Inside}
use Rattle.oxt_tree.specs.declared.inside.Inside.TheVariants as inside
use Rattle.oxt_grammar.specs.Field.{Field}
use Rattle.oxt_grammar.specs.Keys.{key_of}
use Rattle.oxt_grammar.specs.Rows.{row_of}
use Rattle.oxt_grammar.specs.declared.field.Field.{Field as FieldName}
use Rattle.oxt_grammar.specs.declared.kind.Kind.{Kind}
use Rattle.oxt_tree.specs.Doc.{Doc, nil, flag, number, text, list, node, Docs, no_docs, doc}

-- what a node gives, as a list
abbrev pub given : {A : Type 0} → Option A → List A
given None = []
given (Some x) = x ∷ []

-- what is given inside a node: nothing, all alike, each field in its own state, or one field alone
abbrev pub given_inside : {S A : Type 0} → (S → List A) → (S → List A) → (FieldName → S → List A) → Inside S → List A
given_inside alike by_field alone inside.Skipped = []
given_inside alike by_field alone (inside.Alike s) = alike s
given_inside alike by_field alone (inside.ByField s) = by_field s
given_inside alike by_field alone (inside.Only f s) = alone f s

-- what is given in a field, unless it is left out
abbrev pub given_in : {S A : Type 0} → (S → List A) → Option S → List A
given_in f None = []
given_in f (Some s) = f s

-- All that a document gives, which is reached in the state `s`: a node before those in it.
abbrev mutual
  pub all_in : {S A : Type 0} → Sought S A → Doc → S → List A
  all_in q nil s = []
  all_in q (flag b) s = []
  all_in q (number n) s = []
  all_in q (text t) s = []
  all_in q (list ds) s = all_among q ds s
  all_in q (node k i b e ds) s =
      given (q.at s k i ds)
      ++ given_inside (all_among q ds) (all_below q ds k (row_of k)) (λ f. all_at q ds (row_of k) (key_of f)) (q.inside s k i ds)

  -- the same of documents that stand one after the other
  pub all_among : {S A : Type 0} → Sought S A → Docs → S → List A
  all_among q no_docs s = []
  all_among q (doc d ds) s = all_in q d s ++ all_among q ds s

  -- the same of the fields of a node of that kind
  pub all_below : {S A : Type 0} → Sought S A → Docs → Kind → List Field → S → List A
  all_below q no_docs k rs s = []
  all_below q (doc d ds) k [] s = []
  all_below q (doc d ds) k (r ∷ rs) s =
      given_in (all_in q d) (q.in_field s k r) ++ all_below q ds k rs s

  -- the same of the field of that name alone
  pub all_at : {S A : Type 0} → Sought S A → Docs → List Field → List ℕ → S → List A
  all_at q no_docs rs name s = []
  all_at q (doc d ds) [] name s = []
  all_at q (doc d ds) (r ∷ rs) name s =
      if bytes_eq r.name name then all_in q d s else all_at q ds rs name s
