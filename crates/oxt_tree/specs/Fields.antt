-- What the fields of a document hold.
use Rattle.std.specs.Prelude.{ℕ, List, [], ◌∷◌, Bool, true, false, not, ◌&&◌, if◌then◌else◌, Option, None, Some, slice_get, length}
use Rattle.std.specs.Str.{bytes_eq}
use Rattle.oxt_grammar.specs.Field.{Field, is_required}
use Rattle.oxt_grammar.specs.Places.{same_kind, kind_in}
use Rattle.oxt_grammar.specs.Rows.{row_of}
use Rattle.oxt_grammar.specs.Words.{text_of, words_in}
use Rattle.oxt_grammar.specs.declared.category.Category.{Category}
use Rattle.oxt_grammar.specs.declared.holds.Holds.{Holds}
use Rattle.oxt_grammar.specs.declared.holds.Holds.TheVariants as holds
use Rattle.oxt_grammar.specs.declared.kind.Kind.{Kind}
use Rattle.oxt_grammar.specs.declared.word.Word.{Word}
use Rattle.oxt_tree.specs.Doc.{Doc, nil, flag, number, text, list, node, Docs, no_docs, doc}

-- the field of that name, by the rows of the table; null where there is none
abbrev pub at_name : List ℕ → List Field → Docs → Doc
at_name name [] ds = nil
at_name name (r ∷ rs) no_docs = nil
at_name name (r ∷ rs) (doc d ds) = if bytes_eq r.name name then d else at_name name rs ds

abbrev pub named : List ℕ → Kind → Docs → Doc
named name k ds = at_name name (row_of k) ds

-- the field of that name of a node; null for anything else
abbrev pub field_of : List ℕ → Doc → Doc
field_of name nil = nil
field_of name (flag b) = nil
field_of name (number n) = nil
field_of name (text t) = nil
field_of name (list ds) = nil
field_of name (node k i b e ds) = named name k ds

-- the documents of a list; none for anything else
abbrev pub elements : Doc → Docs
elements nil = no_docs
elements (flag b) = no_docs
elements (number n) = no_docs
elements (text t) = no_docs
elements (list ds) = ds
elements (node k i b e ds) = no_docs

-- as a list of the logic
abbrev pub docs_list : Docs → List Doc
docs_list no_docs = []
docs_list (doc d ds) = d ∷ docs_list ds

abbrev pub is_nil : Doc → Bool
is_nil nil = true
is_nil (flag b) = false
is_nil (number n) = false
is_nil (text t) = false
is_nil (list ds) = false
is_nil (node k i b e ds) = false

-- a flag that is set
abbrev pub is_set : Doc → Bool
is_set nil = false
is_set (flag b) = b
is_set (number n) = false
is_set (text t) = false
is_set (list ds) = false
is_set (node k i b e ds) = false

-- that text
abbrev pub is_text : List ℕ → Doc → Bool
is_text t nil = false
is_text t (flag b) = false
is_text t (number n) = false
is_text t (text u) = bytes_eq u t
is_text t (list ds) = false
is_text t (node k i b e ds) = false

-- a node of that kind
abbrev pub is_kind : Kind → Doc → Bool
is_kind k nil = false
is_kind k (flag b) = false
is_kind k (number n) = false
is_kind k (text t) = false
is_kind k (list ds) = false
is_kind k (node j i b e ds) = same_kind j k

-- a node of that category
abbrev pub is_in : Category → Doc → Bool
is_in c nil = false
is_in c (flag b) = false
is_in c (number n) = false
is_in c (text t) = false
is_in c (list ds) = false
is_in c (node k i b e ds) = kind_in c k

abbrev pub word_doc : Option Word → Doc
word_doc None = nil
word_doc (Some w) = text (text_of w)

-- what a field holds where it is left out
abbrev pub default_of : Holds → Doc
default_of holds.Flag = flag false
default_of (holds.Word ws) = word_doc (slice_get (words_in ws) 0)
default_of (holds.List c) = list no_docs
default_of (holds.ListOfNullable c) = list no_docs
default_of h = nil

abbrev pub is_word : Option Word → List ℕ → Bool
is_word None t = false
is_word (Some w) t = bytes_eq (text_of w) t

-- what stands there is the default of such a field
abbrev pub is_default : Holds → Doc → Bool
is_default holds.Flag (flag b) = not b
is_default (holds.Word ws) (text t) = is_word (slice_get (words_in ws) 0) t
is_default (holds.List c) (list no_docs) = true
is_default (holds.ListOfNullable c) (list no_docs) = true
is_default holds.TextOrNull nil = true
is_default holds.WholeOrNull nil = true
is_default (holds.WordOrNull ws) nil = true
is_default (holds.NodeOrNull c) nil = true
is_default (holds.ListOrNull c) nil = true
is_default h d = false

-- a field that the written tree leaves out
abbrev pub is_left_out : Field → Doc → Bool
is_left_out r d = not (is_required r.presence) && is_default r.holds d

-- a list without elements
abbrev pub is_empty_list : Doc → Bool
is_empty_list (list no_docs) = true
is_empty_list d = false

-- the document itself, if it is a node
abbrev pub node_of : Doc → Option Doc
node_of (node k i b e ds) = Some (node k i b e ds)
node_of d = None

-- the text, if it is one
abbrev pub text_in : Doc → Option (List ℕ)
text_in (text t) = Some t
text_in d = None

-- the first document; null where there is none
abbrev pub first : Docs → Doc
first no_docs = nil
first (doc d ds) = d

-- how many documents there are
abbrev pub count : Docs → ℕ
count ds = length (docs_list ds)
