-- The names of a tree: those of its bindings and references, also in code that is erased.
use Rattle.std.specs.Prelude.{ℕ, List, [], ◌++◌, ◌||◌, if◌then◌else◌, Option, None, option_to_list, codes}
use Rattle.oxt_grammar.specs.Places.{same_kind}
use Rattle.oxt_grammar.specs.declared.kind.Kind.{Kind}
use Rattle.oxt_grammar.specs.declared.kind.Kind.TheVariants as kind
use Rattle.oxt_tree.specs.Doc.{Doc, nil, flag, number, text, list, node, Docs, no_docs, doc}
use Rattle.oxt_tree.specs.Fields.{named, field_of, elements, first, is_kind, text_in}

-- the name of an enum member by the document that stands for it: a name, a text, or a template without
-- expressions
abbrev pub member_name : Doc → Option (List ℕ)
member_name d =
    if is_kind kind.IdentifierName d then text_in (field_of (codes "name") d)
    else if is_kind kind.StringLiteral d then text_in (field_of (codes "value") d)
    else if is_kind kind.TemplateLiteral d then text_in (field_of (codes "cooked") (first (elements (field_of (codes "quasis") d))))
    else None

-- the name that a node itself is, or declares: a binding, a reference or an enum member
abbrev pub own_name : Kind → Docs → Option (List ℕ)
own_name k ds =
    if same_kind k kind.BindingIdentifier || same_kind k kind.IdentifierReference then text_in (named (codes "name") k ds)
    else if same_kind k kind.TSEnumMember then member_name (named (codes "id") k ds)
    else None

-- the names of a tree, in the order of its fields
abbrev mutual
  pub names : Doc → List (List ℕ)
  names nil = []
  names (flag b) = []
  names (number n) = []
  names (text t) = []
  names (list ds) = names_of_each ds
  names (node k i b e ds) = option_to_list (own_name k ds) ++ names_of_each ds

  -- those of each of them, one after the other
  pub names_of_each : Docs → List (List ℕ)
  names_of_each no_docs = []
  names_of_each (doc d ds) = names d ++ names_of_each ds
