-- The specifiers of imports and exports, and the declarations `import a = ..`, that are kept.
use Rattle.std.specs.Prelude.{ℕ, List, [], ◌∷◌, ◌++◌, Bool, true, false, not, ◌&&◌, ◌||◌, if◌then◌else◌, Option, None, Some, codes}
use Rattle.oxt_metadata.specs.Symbols.{is_in, is_named}
use Rattle.oxt_modules.specs.Aliases.{aliases}
use Rattle.oxt_modules.specs.Jsx.{is_jsx_text, jsx_use}
use Rattle.oxt_modules.specs.Marked.{beside, marked}
use Rattle.oxt_modules.specs.Names.{is_declared_again, is_name_kept, is_used}
use Rattle.oxt_modules.specs.declared.alias.Alias.{Alias}
use Rattle.oxt_modules.specs.declared.jsx.JsxUse.{JsxUse}
use Rattle.oxt_modules.specs.declared.kept.OtherUses.{OtherUses}
use Rattle.oxt_modules.specs.declared.kept.Place.{Place}
use Rattle.oxt_modules.specs.declared.kept.Place.TheVariants as place
use Rattle.oxt_options.specs.Options.{TypeScriptData}
use Rattle.oxt_scoping.specs.Scoped.{Scoped, at_node}
use Rattle.oxt_grammar.specs.Places.{same_kind}
use Rattle.oxt_grammar.specs.declared.kind.Kind.{Kind}
use Rattle.oxt_grammar.specs.declared.kind.Kind.TheVariants as kind
use Rattle.oxt_tree.specs.Doc.{Doc, text, node, Docs, no_docs, doc}
use Rattle.oxt_tree.specs.Fields.{elements, field_of, named}
use Rattle.oxt_tree.specs.Syntax.{is_type_only}

-- how a program uses names beside its references: what it has of JSX, and which symbols metadata names
pub record Uses : Type 0 where
  pub jsx : JsxUse
  pub named : ℕ → Bool

-- as the program has it
abbrev pub uses_view : OtherUses → Uses
uses_view u = record { jsx = u.jsx; named = is_in u.named.now }

-- metadata names the symbol that the node of that number declares
abbrev pub is_named_there : Scoped → Uses → ℕ → Bool
is_named_there s u i = is_named u.named (at_node (record { 0 = i }) s.declared)

-- the number, where that is so
abbrev pub kept_if : Bool → ℕ → List ℕ
kept_if b i = if b then i ∷ [] else []

-- Where unused imports are not kept, an import of that name is kept if no other declaration of the name is
-- more than a type, and if a value use means it, metadata names it, or JSX uses the name.
abbrev pub is_local_kept : Scoped → TypeScriptData → Uses → Doc → Bool
is_local_kept s o u (node k i b e ds) =
    not (is_declared_again s i)
    && (is_used s i || (is_named_there s u i || is_jsx_text o u.jsx (named (codes "name") k ds)))
is_local_kept s o u d = false

-- An export of the text is kept unless the program declares it, and no declaration of it emits code.
abbrev pub is_text_kept : Scoped → Doc → Bool
is_text_kept s (text t) = is_name_kept s t
is_text_kept s d = true

-- the same of the name that the node is
abbrev pub is_spelling_kept : Scoped → Doc → Bool
is_spelling_kept s (node k i b e ds) = is_text_kept s (named (codes "name") k ds)
is_spelling_kept s d = true

-- a specifier with that local name, which does not say that it is of a type, is kept at that place
abbrev pub is_kept : Scoped → TypeScriptData → Uses → Place → Doc → Bool
is_kept s o u place.Import d = o.only_remove_type_imports || is_local_kept s o u d
is_kept s o u place.Export d = is_spelling_kept s d
is_kept s o u place.ExportFrom d = true

-- the number of the specifier at that place, if it is kept
abbrev pub kept_specifier : Scoped → TypeScriptData → Uses → Place → Doc → List ℕ
kept_specifier s o u p (node k i b e ds) = kept_if (not (is_type_only k ds) && is_kept s o u p (named (codes "local") k ds)) i
kept_specifier s o u p d = []

-- those of a list of specifiers
abbrev pub kept_in_list : Scoped → TypeScriptData → Uses → Place → Docs → List ℕ
kept_in_list s o u p no_docs = []
kept_in_list s o u p (doc d ds) = kept_specifier s o u p d ++ kept_in_list s o u p ds

-- the node is a bare name, whose export is kept
abbrev pub is_reference_kept : Scoped → Kind → Docs → Bool
is_reference_kept s k ds = same_kind k kind.IdentifierReference && is_text_kept s (named (codes "name") k ds)

-- the number of the bare name that is exported, if it is kept
abbrev pub exported_name : Scoped → Doc → List ℕ
exported_name s (node k i b e ds) = kept_if (is_reference_kept s k ds) i
exported_name s d = []

-- that of `export default`
abbrev pub kept_default : Scoped → Kind → Docs → List ℕ
kept_default s k ds = if same_kind k kind.ExportDefaultDeclaration then exported_name s (named (codes "declaration") k ds) else []

-- where the specifiers of nodes of the kind stand
abbrev pub place_of : Kind → Option Place
place_of k =
    if same_kind k kind.ImportDeclaration then Some place.Import
    else if same_kind k kind.ExportNamedDeclaration then Some place.Export
    else if same_kind k kind.ExportFromDeclaration then Some place.ExportFrom
    else None

-- what is kept of a statement that is not of types alone
abbrev pub kept_at : Scoped → TypeScriptData → Uses → Option Place → Kind → Docs → List ℕ
kept_at s o u None k ds = kept_default s k ds
kept_at s o u (Some p) k ds = kept_in_list s o u p (elements (named (codes "specifiers") k ds))

-- what is kept of a statement
abbrev pub kept_in_statement : Scoped → TypeScriptData → Uses → Doc → List ℕ
kept_in_statement s o u (node k i b e ds) = if is_type_only k ds then [] else kept_at s o u (place_of k) k ds
kept_in_statement s o u d = []

-- what is kept of the statements
abbrev pub kept_in_statements : Scoped → TypeScriptData → Uses → Docs → List ℕ
kept_in_statements s o u no_docs = []
kept_in_statements s o u (doc d ds) = kept_in_statement s o u d ++ kept_in_statements s o u ds

-- A declaration `import a = ..` is kept that is exported or that a value use means, or where unused imports are kept.
abbrev pub is_alias_kept : Scoped → TypeScriptData → Alias → Bool
is_alias_kept s o a = a.is_exported || (o.only_remove_type_imports || is_used s a.name.0)

-- the numbers of those that are kept
abbrev pub kept_aliases : Scoped → TypeScriptData → List Alias → List ℕ
kept_aliases s o [] = []
kept_aliases s o (a ∷ xs) = kept_if (is_alias_kept s o a) a.node.0 ++ kept_aliases s o xs

-- what is kept of a program, of which that is the table and which uses names so beside its references
abbrev pub kept_by : Scoped → Uses → Doc → TypeScriptData → List ℕ
kept_by s u d o = kept_in_statements s o u (elements (field_of (codes "body") d)) ++ kept_aliases s o (aliases d)

-- What is kept of a program that has this of JSX: specifiers, names that are exported by default, and declarations
-- `import a = ..`. Names in the right sides of those that nothing uses are no uses themselves. Symbols that metadata names are
-- used, but too late to keep an `import a = ..`.
abbrev pub kept_beside : JsxUse → Scoped → (ℕ → Bool) → Doc → TypeScriptData → List ℕ
kept_beside jsx s zs d o = kept_by (beside (marked s d o) s) (record { jsx = jsx; named = zs }) d o

-- the same, where what it has of JSX is what stands outside erased code; the flag says whether decorators have their older
-- meaning
abbrev pub kept : Scoped → (ℕ → Bool) → Doc → TypeScriptData → Bool → List ℕ
kept s zs d o legacy = kept_beside (jsx_use legacy d) s zs d o
