-- Namespaces of types alone.
use Rattle.std.specs.Prelude.{ℕ, List, [], ◌∷◌, Bool, true, false, ◌&&◌, ◌||◌, if◌then◌else◌, codes}
use Rattle.std.specs.Str.{bytes_eq}
use Rattle.oxt_grammar.specs.Field.{Field}
use Rattle.oxt_grammar.specs.Rows.{row_of}
use Rattle.oxt_grammar.specs.declared.kind.Kind.{Kind}
use Rattle.oxt_grammar.specs.declared.kind.Kind.TheVariants as kind
use Rattle.oxt_tree.specs.Doc.{Doc, nil, flag, number, text, list, node, Docs, no_docs, doc}
use Rattle.oxt_tree.specs.Fields.{named, is_kind, is_set}
use Rattle.oxt_tree.specs.View.{docs_in}
use Rattle.oxt_tree.specs.declared.tree.Node.{Node}
use Rattle.oxt_declares.specs.RoleOf.{role_of}
use Rattle.oxt_declares.specs.declared.role.Role.{Role}
use Rattle.oxt_declares.specs.declared.role.Role.TheVariants as role

-- an alias, an interface or a namespace, which may be exported
abbrev pub may_export : Doc → Bool
may_export d =
    is_kind kind.TSTypeAliasDeclaration d
    || (is_kind kind.TSInterfaceDeclaration d || is_kind kind.TSNamespaceDeclaration d)

abbrev pub namespace_of_types : Kind → Docs → (List ℕ → Bool) → Bool
namespace_of_types k ds c = if is_set (named (codes "declare") k ds) then true else c (codes "body")

abbrev pub export_of_types : Kind → Docs → (List ℕ → Bool) → Bool
export_of_types k ds c = if may_export (named (codes "declaration") k ds) then c (codes "declaration") else false

-- A statement that stands for nothing at run time in a namespace: an alias, an interface, a module,
-- `import a = b`, a namespace that is only declared or itself of types alone, and an exported alias,
-- interface or such namespace.
abbrev pub stands_for_types : Role → Kind → Docs → (List ℕ → Bool) → Bool
stands_for_types role.Alias k ds c = true
stands_for_types role.Interface k ds c = true
stands_for_types role.Module k ds c = true
stands_for_types role.ImportEquals k ds c = true
stands_for_types role.Namespace k ds c = namespace_of_types k ds c
stands_for_types role.Export k ds c = export_of_types k ds c
stands_for_types role.ModuleBlock k ds c = c (codes "body")
stands_for_types r k ds c = false

-- a document is such a statement, or a list of such
abbrev mutual
  pub is_of_types : Doc → Bool
  is_of_types nil = false
  is_of_types (flag b) = false
  is_of_types (number n) = false
  is_of_types (text t) = false
  is_of_types (list ds) = all_of_types ds
  is_of_types (node k i b e ds) = stands_for_types (role_of k) k ds (field_of_types ds (row_of k))

  pub all_of_types : Docs → Bool
  all_of_types no_docs = true
  all_of_types (doc d ds) = is_of_types d && all_of_types ds

  -- the field of that name
  pub field_of_types : Docs → List Field → List ℕ → Bool
  field_of_types no_docs rs name = false
  field_of_types (doc d ds) [] name = false
  field_of_types (doc d ds) (r ∷ rs) name =
      if bytes_eq r.name name then is_of_types d else field_of_types ds rs name

-- the field of that name of a node
abbrev pub each_of_types : Node → List ℕ → Bool
each_of_types n = field_of_types (docs_in n.parts.items) (row_of n.kind)
