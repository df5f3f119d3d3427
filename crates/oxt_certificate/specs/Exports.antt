-- The `export {}` statements of a program, which say that it is a module.
use Rattle.std.specs.Prelude.{◌≡◌, List, [], ◌∷◌, ◌++◌, Bool, true, false, ◌&&◌, nat_eq, if◌then◌else◌, codes}
use Rattle.oxt_grammar.specs.Places.{same_kind}
use Rattle.oxt_grammar.specs.declared.kind.Kind.{Kind}
use Rattle.oxt_grammar.specs.declared.kind.Kind.TheVariants as kind
use Rattle.oxt_tree.specs.Doc.{Doc, list, node, Docs, no_docs, doc}
use Rattle.oxt_tree.specs.Fields.{elements, field_of, is_empty_list, is_text, named}
use Rattle.oxt_tree.specs.Syntax.{is_definition_file}
use Rattle.oxt_names.specs.declared.ids.Span.{Span}

-- `export {}`: an export of values with an empty list
abbrev pub is_empty_export_by : Kind → Docs → Bool
is_empty_export_by k ds =
    same_kind k kind.ExportNamedDeclaration
    && (is_text (codes "value") (named (codes "exportKind") k ds)
    && is_empty_list (list (elements (named (codes "specifiers") k ds))))

abbrev pub is_empty_export : Doc → Bool
is_empty_export (node k i b e ds) = is_empty_export_by k ds
is_empty_export d = false

-- where such a statement stands in the source text
abbrev pub export_span : Doc → List Span
export_span (node k i b e ds) = if is_empty_export_by k ds then record { start = b; end = e } ∷ [] else []
export_span d = []

-- where those of the statements stand, in order
abbrev pub empty_exports : Docs → List Span
empty_exports no_docs = []
empty_exports (doc d ds) = export_span d ++ empty_exports ds

-- the last of the documents is such a statement; where there is none, what is said before
abbrev pub last_is_export : Bool → Docs → Bool
last_is_export before no_docs = before
last_is_export before (doc d ds) = last_is_export (is_empty_export d) ds

abbrev pub ends_in_export : Docs → Bool
ends_in_export ds = last_is_export false ds

-- the statements of a program
abbrev pub body : Doc → Docs
body d = elements (field_of (codes "body") d)

-- where a statement stands that is in no source text
abbrev pub no_span : Span
no_span = record { start = 0; end = 0 }

-- Where those of the output of a source stand: as in the source, and behind these one that is in no source text, where
-- one is due. A file of definitions has none.
abbrev pub exports_left : Bool → Doc → List Span
exports_left due source =
    if is_definition_file source then []
    else if due then empty_exports (body source) ++ no_span ∷ []
    else empty_exports (body source)

-- The `export {}` statements of the output's body are those of its source's, in order, and one more as the last
-- statement exactly where one is due.
pub record HasExports (is_due : Bool) (source output : Doc) : Type 0 where
  pub same : empty_exports (body output) ≡ exports_left is_due source
  pub last : is_due ≡ true → ends_in_export (body output) ≡ true

-- both are one span, and one list of spans
abbrev pub same_span : Span → Span → Bool
same_span a b = nat_eq a.start b.start && nat_eq a.end b.end

abbrev pub same_spans : List Span → List Span → Bool
same_spans [] [] = true
same_spans [] (b ∷ bs) = false
same_spans (a ∷ ss) [] = false
same_spans (a ∷ ss) (b ∷ bs) = same_span a b && same_spans ss bs
