-- Dotted names.
use Rattle.std.specs.Prelude.{ℕ, List, [], ◌∷◌, ◌++◌, ◌==◌, if◌then◌else◌, Option, None, Some, unwrap_or, codes}
use Rattle.std.specs.Option.{option_or}
use Rattle.oxt_grammar.specs.Places.{same_kind}
use Rattle.oxt_grammar.specs.declared.kind.Kind.{Kind}
use Rattle.oxt_grammar.specs.declared.kind.Kind.TheVariants as kind
use Rattle.oxt_tree.specs.Doc.{Doc, nil, flag, number, text, list, node, Docs, no_docs, doc}
use Rattle.oxt_tree.specs.Fields.{field_of, named, text_in}

-- the innermost first part of a dotted name; `outer` where there is no node
abbrev mutual
  pub root_or : Doc → Doc → Doc
  root_or nil outer = outer
  root_or (flag b) outer = outer
  root_or (number n) outer = outer
  root_or (text t) outer = outer
  root_or (list ds) outer = outer
  root_or (node k i b e ds) outer =
      if same_kind k kind.TSQualifiedName then first_root ds (node k i b e ds) else node k i b e ds

  -- that of the first of them
  pub first_root : Docs → Doc → Doc
  first_root no_docs outer = outer
  first_root (doc d ds) outer = root_or d outer

-- The first name of a dotted name: that of `a` in `a.b.c`; of a single name the name itself.
abbrev pub root : Doc → Doc
root d = root_or d d

-- the text of a name; no text of anything else
abbrev pub text_of : Doc → List ℕ
text_of d = unwrap_or (text_in (field_of (codes "name") d)) []

-- the last of the names
abbrev pub right_name : Kind → Docs → List (List ℕ)
right_name k ds = text_of (named (codes "right") k ds) ∷ []

-- of a dotted name, behind those of its first part; a single name has none
abbrev pub node_path : Kind → Docs → List (List ℕ) → List (List ℕ)
node_path k ds before = if same_kind k kind.TSQualifiedName then before ++ right_name k ds else []

-- The names behind the first one: those of `b` and `c` in `a.b.c`.
abbrev mutual
  pub path : Doc → List (List ℕ)
  path nil = []
  path (flag b) = []
  path (number n) = []
  path (text t) = []
  path (list ds) = []
  path (node k i b e ds) = node_path k ds (first_path ds)

  -- those of the first of them
  pub first_path : Docs → List (List ℕ)
  first_path no_docs = []
  first_path (doc d ds) = path d

-- the first node with that number in a document
abbrev mutual
  pub node_numbered : ℕ → Doc → Option Doc
  node_numbered n nil = None
  node_numbered n (flag b) = None
  node_numbered n (number m) = None
  node_numbered n (text t) = None
  node_numbered n (list ds) = node_among n ds
  node_numbered n (node k i b e ds) = if i == n then Some (node k i b e ds) else node_among n ds

  -- the first among them
  pub node_among : ℕ → Docs → Option Doc
  node_among n no_docs = None
  node_among n (doc d ds) = option_or (node_numbered n d) (node_among n ds)
