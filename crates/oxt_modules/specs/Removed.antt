-- Which imports and exports of a module are removed, by what is kept.
use Rattle.std.specs.Prelude.{ℕ, Bool, false, not, ◌&&◌, ◌||◌, if◌then◌else◌, codes}
use Rattle.std.specs.List.{list_any}
use Rattle.oxt_grammar.specs.Places.{same_kind}
use Rattle.oxt_grammar.specs.declared.kind.Kind.{Kind}
use Rattle.oxt_grammar.specs.declared.kind.Kind.TheVariants as kind
use Rattle.oxt_tree.specs.Doc.{Doc, nil, flag, number, text, list, node, Docs}
use Rattle.oxt_tree.specs.Fields.{docs_list, elements, is_empty_list, is_kind, is_set, named}
use Rattle.oxt_tree.specs.Syntax.{is_type_only}
use Rattle.oxt_declares.specs.Dropped.{is_dropped}

-- a node that is kept by its number
abbrev pub is_kept : (ℕ → Bool) → Doc → Bool
is_kept ks nil = false
is_kept ks (flag b) = false
is_kept ks (number n) = false
is_kept ks (text t) = false
is_kept ks (list ds) = false
is_kept ks (node k i b e ds) = ks i

-- there are specifiers, and none is kept
abbrev pub loses_all : (ℕ → Bool) → Docs → Bool
loses_all ks ds = not (is_empty_list (list ds)) && not (list_any (is_kept ks) (docs_list ds))

-- an export of names, with a source or without
abbrev pub is_export_list : Kind → Bool
is_export_list k = same_kind k kind.ExportNamedDeclaration || same_kind k kind.ExportFromDeclaration

-- an import or an export of names
abbrev pub is_listing : Kind → Bool
is_listing k = same_kind k kind.ImportDeclaration || is_export_list k

-- by default is exported what stands for nothing at run time, or a name that is not kept
abbrev pub is_nothing : (ℕ → Bool) → Doc → Bool
is_nothing ks d = is_dropped d || (is_kind kind.IdentifierReference d && not (is_kept ks d))

-- An import or an export that goes: one of types alone, one of whose specifiers none is kept, an export of what stands
-- for nothing at run time, and the name of a global. With `all` an import that loses its specifiers stays.
abbrev pub is_export_removed : (ℕ → Bool) → Bool → Kind → Docs → Bool
is_export_removed ks all k ds =
    if same_kind k kind.ImportDeclaration
    then is_type_only k ds || (not all && loses_all ks (elements (named (codes "specifiers") k ds)))
    else if is_export_list k
    then is_type_only k ds || loses_all ks (elements (named (codes "specifiers") k ds))
    else if same_kind k kind.ExportAllDeclaration then is_type_only k ds
    else if same_kind k kind.ExportDeclaration then is_dropped (named (codes "declaration") k ds)
    else if same_kind k kind.ExportDefaultDeclaration then is_nothing ks (named (codes "declaration") k ds)
    else same_kind k kind.TSNamespaceExportDeclaration

-- a statement that goes: such an import or export, and an `import =` without `export` that is not kept
abbrev pub is_removed_by : (ℕ → Bool) → Bool → Kind → ℕ → Docs → Bool
is_removed_by ks all k i ds = if same_kind k kind.TSImportEqualsDeclaration then not (ks i) else is_export_removed ks all k ds

abbrev pub is_removed : (ℕ → Bool) → Bool → Doc → Bool
is_removed ks all nil = false
is_removed ks all (flag b) = false
is_removed ks all (number n) = false
is_removed ks all (text t) = false
is_removed ks all (list ds) = false
is_removed ks all (node k i b e ds) = is_removed_by ks all k i ds

-- a namespace or an external module without `declare`
abbrev pub is_lowered : Kind → Docs → Bool
is_lowered k ds =
    (same_kind k kind.TSNamespaceDeclaration || same_kind k kind.TSExternalModuleDeclaration)
    && not (is_set (named (codes "declare") k ds))

abbrev pub is_lowered_node : Doc → Bool
is_lowered_node nil = false
is_lowered_node (flag b) = false
is_lowered_node (number n) = false
is_lowered_node (text t) = false
is_lowered_node (list ds) = false
is_lowered_node (node k i b e ds) = is_lowered k ds

-- an export of such
abbrev pub exports_lowered : Kind → Docs → Bool
exports_lowered k ds = same_kind k kind.ExportDeclaration && is_lowered_node (named (codes "declaration") k ds)

-- Such an import or export counts as one that is removed, unless what it exports goes with the namespaces. An `import =`
-- without `export` does not count.
abbrev pub is_counted_removed : (ℕ → Bool) → Bool → Doc → Bool
is_counted_removed ks all nil = false
is_counted_removed ks all (flag b) = false
is_counted_removed ks all (number n) = false
is_counted_removed ks all (text t) = false
is_counted_removed ks all (list ds) = false
is_counted_removed ks all (node k i b e ds) = is_export_removed ks all k ds && not (exports_lowered k ds)
