-- When `export {}` has to say that a program is a module.
use Rattle.std.specs.Prelude.{ℕ, Bool, false, not, ◌&&◌, ◌||◌, codes}
use Rattle.std.specs.List.{list_any}
use Rattle.oxt_modules.specs.Removed.{is_counted_removed, is_listing, is_removed}
use Rattle.oxt_grammar.specs.Places.{same_kind}
use Rattle.oxt_grammar.specs.declared.kind.Kind.{Kind}
use Rattle.oxt_grammar.specs.declared.kind.Kind.TheVariants as kind
use Rattle.oxt_tree.specs.Doc.{Doc, nil, flag, number, text, list, node, Docs}
use Rattle.oxt_tree.specs.Fields.{docs_list, elements, field_of, named}
use Rattle.oxt_tree.specs.Syntax.{is_definition_file}

-- an import or an export that is one in JavaScript too
abbrev pub is_module_kind : Kind → Bool
is_module_kind k =
    is_listing k || (same_kind k kind.ExportAllDeclaration || (same_kind k kind.ExportDeclaration
    || same_kind k kind.ExportDefaultDeclaration))

-- a block of an enum or a namespace
abbrev pub is_block : Kind → Bool
is_block k = same_kind k kind.TSEnumDeclaration || same_kind k kind.TSNamespaceDeclaration

-- such a block, before which something of its name emits code
abbrev pub is_later_block : (ℕ → Bool) → Doc → Bool
is_later_block fs nil = false
is_later_block fs (flag b) = false
is_later_block fs (number n) = false
is_later_block fs (text t) = false
is_later_block fs (list ds) = false
is_later_block fs (node k i b e ds) = is_block k && not (fs i)

-- An import or an export whose statement is one in JavaScript too; an export of a later block is none.
abbrev pub is_exporting : (ℕ → Bool) → Kind → Docs → Bool
is_exporting fs k ds =
    is_module_kind k
    && not (same_kind k kind.ExportDeclaration && is_later_block fs (named (codes "declaration") k ds))

abbrev pub is_module_statement : (ℕ → Bool) → Doc → Bool
is_module_statement fs nil = false
is_module_statement fs (flag b) = false
is_module_statement fs (number n) = false
is_module_statement fs (text t) = false
is_module_statement fs (list ds) = false
is_module_statement fs (node k i b e ds) = is_exporting fs k ds

-- one of the statements is removed, other than an `import =` without `export`
abbrev pub any_removed : (ℕ → Bool) → Bool → Docs → Bool
any_removed ks all ds = list_any (is_counted_removed ks all) (docs_list ds)

-- an import or an export that stays
abbrev pub is_staying : (ℕ → Bool) → (ℕ → Bool) → Bool → Doc → Bool
is_staying ks fs all d = is_module_statement fs d && not (is_removed ks all d)

-- one of the statements is such
abbrev pub any_staying : (ℕ → Bool) → (ℕ → Bool) → Bool → Docs → Bool
any_staying ks fs all ds = list_any (is_staying ks fs all) (docs_list ds)

-- Of a program, which is no file of definitions, an import or an export is removed, and none that stays is one. The first
-- numbers are those of the nodes that are kept, and the second those of the first blocks of enums and namespaces.
abbrev pub is_export_due : (ℕ → Bool) → (ℕ → Bool) → Bool → Doc → Bool
is_export_due ks fs all d =
    not (is_definition_file d)
    && (any_removed ks all (elements (field_of (codes "body") d))
    && not (any_staying ks fs all (elements (field_of (codes "body") d))))
