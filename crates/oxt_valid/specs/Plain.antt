-- Documents without TypeScript.
use Rattle.std.specs.Prelude.{List, [], ◌∷◌, Bool, true, not, ◌&&◌, ◌||◌}
use Rattle.oxt_grammar.specs.Field.{Field, is_typescript_field}
use Rattle.oxt_grammar.specs.Kinds.{is_typescript_kind}
use Rattle.oxt_grammar.specs.Rows.{row_of}
use Rattle.oxt_tree.specs.Doc.{Doc, nil, flag, number, text, list, node, Docs, no_docs, doc}
use Rattle.oxt_tree.specs.Fields.{is_default}

-- No field that only TypeScript has is away from its default.
abbrev pub fields_plain : List Field → Docs → Bool
fields_plain [] ds = true
fields_plain (r ∷ rs) no_docs = true
fields_plain (r ∷ rs) (doc d ds) =
    (not (is_typescript_field r.presence) || is_default r.holds d) && fields_plain rs ds

-- No node has a kind or a field of TypeScript.
abbrev mutual
  pub is_plain : Doc → Bool
  is_plain nil = true
  is_plain (flag b) = true
  is_plain (number n) = true
  is_plain (text t) = true
  is_plain (list ds) = all_plain ds
  is_plain (node k i b e ds) =
      not (is_typescript_kind k) && (fields_plain (row_of k) ds && all_plain ds)

  pub all_plain : Docs → Bool
  all_plain no_docs = true
  all_plain (doc d ds) = is_plain d && all_plain ds
