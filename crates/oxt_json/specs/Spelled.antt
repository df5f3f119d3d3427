-- How a document is spelled as JSON.
use Rattle.std.specs.Prelude.{ℕ, ◌≡◌, ◌≤◌, List, [], ◌∷◌, ◌==◌, if◌then◌else◌, Some, codes}
use Rattle.oxt_grammar.specs.Field.{Field}
use Rattle.oxt_grammar.specs.Kinds.{name_of}
use Rattle.oxt_grammar.specs.Rows.{row_of}
use Rattle.oxt_grammar.specs.declared.kind.Kind.{Kind}
use Rattle.oxt_tree.specs.Doc.{Doc, nil, flag, number, text, list, node, Docs, no_docs, doc}
use Rattle.oxt_tree.specs.Fields.{is_left_out}
use Rattle.serde_json.specs.Data as json
use Rattle.serde_json.specs.Data.{Data, Members, put, depth}
use Rattle.serde_json.specs.Read.{read, max_depth}
use Rattle.serde_json.specs.View.{items_of}
use Rattle.serde_json.specs.Written.{compact_text}

-- an offset into the source, where it is not 0
abbrev pub put_offset : List ℕ → ℕ → Members → Members
put_offset name n ms = if n == 0 then ms else put name (json.number (json.unsigned n)) ms

-- what every node has: its kind, and where it stands in the source
abbrev pub heading : Kind → ℕ → ℕ → Members
heading k start end = put_offset (codes "end") end (put_offset (codes "start") start (put (codes "type") (json.string (name_of k)) json.no_members))

-- a field that holds a document, of which the data is given, unless it is left out
abbrev pub put_field : Field → Doc → Data → Members → Members
put_field r d written ms = if is_left_out r d then ms else put r.name written ms

-- the fields of the rows
abbrev pub put_fields : List Field → Docs → List Data → Members → Members
put_fields [] ds written ms = ms
put_fields (r ∷ rs) no_docs written ms = ms
put_fields (r ∷ rs) (doc d ds) [] ms = ms
put_fields (r ∷ rs) (doc d ds) (w ∷ written) ms = put_fields rs ds written (put_field r d w ms)

-- The JSON data of a document. A node's number is not written.
abbrev mutual
  pub data_of : Doc → Data
  data_of nil = json.null
  data_of (flag b) = json.boolean b
  data_of (number n) = json.number (json.unsigned n)
  data_of (text t) = json.string t
  data_of (list ds) = json.array (items_of (each_data ds))
  data_of (node k id start end ds) = json.object (put_fields (row_of k) ds (each_data ds) (heading k start end))

  -- the data of each document
  pub each_data : Docs → List Data
  each_data no_docs = []
  each_data (doc d ds) = data_of d ∷ each_data ds

-- the JSON text of a document, with no space
abbrev pub text_of : Doc → List ℕ
text_of d = compact_text (data_of d)

-- The bytes read as the data, where it nests no deeper than a reader goes.
abbrev pub ReadsBack : List ℕ → Data → Type 0
ReadsBack bytes d = depth d ≤ max_depth → read bytes ≡ Some d
