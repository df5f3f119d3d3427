-- The outermost enums, enum bodies and enum members of a document outside what is erased, in the order of the text.
use Rattle.std.specs.Prelude.{ℕ, List, [], ◌∷◌, ◌++◌, Bool, ◌||◌, if◌then◌else◌}
use Rattle.std.specs.Str.{bytes_eq}
use Rattle.oxt_search.specs.All.{all_in}
use Rattle.oxt_search.specs.Sought.{Sought}
use Rattle.oxt_grammar.specs.Field.{Field}
use Rattle.oxt_grammar.specs.Keys.{key_of}
use Rattle.oxt_grammar.specs.Places.{same_kind}
use Rattle.oxt_grammar.specs.Rows.{row_of}
use Rattle.oxt_grammar.specs.declared.field.Field.TheVariants as field
use Rattle.oxt_grammar.specs.declared.kind.Kind.{Kind}
use Rattle.oxt_grammar.specs.declared.kind.Kind.TheVariants as kind
use Rattle.oxt_tree.specs.Doc.{Doc, nil, flag, number, text, list, node, Docs, no_docs, doc}
use Rattle.oxt_declares.specs.Dropped.{is_dropped_by, keeps_decorators}

-- an enum, the body of one, or a member
abbrev pub is_site : Kind → Bool
is_site k = same_kind k kind.TSEnumDeclaration || (same_kind k kind.TSEnumBody || same_kind k kind.TSEnumMember)

-- of an erased node those in its decorators, if they are not erased with it
abbrev pub left_sites : Bool → Kind → Docs → List Doc → List Doc
left_sites l k ds sites = if keeps_decorators l k ds then sites else []

-- such a node itself alone, and of another those in it
abbrev pub itself_or : Kind → Doc → List Doc → List Doc
itself_or k d sites = if is_site k then d ∷ [] else sites

-- those in a document; the flag says whether decorators have their older meaning
abbrev mutual
  pub enum_sites : Bool → Doc → List Doc
  enum_sites l nil = []
  enum_sites l (flag b) = []
  enum_sites l (number n) = []
  enum_sites l (text t) = []
  enum_sites l (list ds) = sites_among l ds
  enum_sites l (node k i b e ds) =
      if is_dropped_by k ds
      then left_sites l k ds (sites_at l ds (row_of k) (key_of field.Decorators))
      else itself_or k (node k i b e ds) (sites_among l ds)

  -- the same of documents that stand one after the other
  pub sites_among : Bool → Docs → List Doc
  sites_among l no_docs = []
  sites_among l (doc d ds) = enum_sites l d ++ sites_among l ds

  -- the same of the field of that name alone
  pub sites_at : Bool → Docs → List Field → List ℕ → List Doc
  sites_at l no_docs rs name = []
  sites_at l (doc d ds) [] name = []
  sites_at l (doc d ds) (r ∷ rs) name = if bytes_eq r.name name then enum_sites l d else sites_at l ds rs name

-- what is said of each of these documents, one after the other
abbrev pub said_of_each : {A : Type 0} → (Doc → List A) → List Doc → List A
said_of_each f [] = []
said_of_each f (d ∷ ds) = f d ++ said_of_each f ds

-- all that these documents give to a search, each reached in that state
abbrev pub all_each : {S A : Type 0} → Sought S A → List Doc → S → List A
all_each q ds s = said_of_each (λ d. all_in q d s) ds
