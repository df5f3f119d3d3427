-- How programs, imports and exports are read.
use Rattle.std.specs.Prelude.{ℕ, List, [], ◌∷◌, ◌++◌, Bool, true, false, ◌&&◌, if◌then◌else◌, Option, None, Some, codes}
use Rattle.oxt_facts.specs.Entry.{Entry, lone, owned, spelled}
use Rattle.oxt_facts.specs.Facts.{Known}
use Rattle.oxt_facts.specs.declared.item.Binding.{Binding}
use Rattle.oxt_facts.specs.declared.item.Binding.TheVariants as binding
use Rattle.oxt_facts.specs.declared.item.ItemKind.TheVariants as item
use Rattle.oxt_forms.specs.Details.{start}
use Rattle.oxt_forms.specs.Leaves.{hash_word}
use Rattle.oxt_grammar.specs.declared.kind.Kind.{Kind}
use Rattle.oxt_grammar.specs.declared.kind.Kind.TheVariants as kind
use Rattle.oxt_tree.specs.Doc.{Doc, nil, flag, text, Docs}
use Rattle.oxt_tree.specs.Fields.{is_empty_list, is_kind, is_text, named}
use Rattle.oxt_items.specs.Node.{opened, OneField, AllFields}
use Rattle.oxt_items.specs.declared.way.Way.TheVariants as way

-- the directive by which all code is strict, where it is due
abbrev pub strict_word : Bool → List Entry
strict_word s = if s then spelled item.Dir (text (codes "use strict")) else []

-- A program is its first line for the system and its fields, between which that directive stands where it is due. The program
-- of a definition file does nothing else.
abbrev pub program_word : Known → Bool → Kind → Docs → AllFields → List Entry
program_word f s k ds fs =
    if f.is_source && is_text (codes "dts") (named (codes "lang") k ds) then strict_word s
    else hash_word (named (codes "hashbang") k ds) ++ (strict_word s ++ fs way.Whole)

-- an import without its list
abbrev pub listless_word : Kind → Docs → OneField → List Entry
listless_word k ds c =
    opened k ds (lone item.Nil ++ (c (codes "source") way.Whole ++ c (codes "withClause") way.Whole))

-- An import of an empty list is one without a list.
abbrev pub import_word : Kind → Docs → OneField → AllFields → List Entry
import_word k ds c fs =
    if is_empty_list (named (codes "specifiers") k ds) then listless_word k ds c else opened k ds (fs way.Whole)

-- An export of an empty list does nothing.
abbrev pub export_list_word : Kind → Docs → AllFields → List Entry
export_list_word k ds fs =
    if is_empty_list (named (codes "specifiers") k ds) then [] else opened k ds (fs way.Whole)

-- the use of a name that no scope of the source declares
abbrev pub free_word : List ℕ → List Entry
free_word t = owned None item.Name (text t) []

-- `export = e` is the write of `exports` of `module`, which is dropped.
abbrev pub export_assignment_word : OneField → List Entry
export_assignment_word c =
    free_word (codes "module")
    ++ (spelled item.Str (text (codes "exports"))
    ++ (c (codes "expression") way.Whole ++ (lone item.Put ++ lone item.Eval)))

-- the start of a call of the name `require`
abbrev pub required_start : List Entry
required_start = start kind.CallExpression (flag false ∷ flag false ∷ []) ++ free_word (codes "require")

-- `require("m")` is such a call.
abbrev pub required_word : OneField → List Entry
required_word c = required_start ++ (c (codes "expression") way.Whole ++ lone item.Close)

-- `a.b` in an import is the read of the member.
abbrev pub qualified_word : OneField → List Entry
qualified_word c =
    c (codes "left") way.Whole ++ (c (codes "right") way.KeyText ++ spelled item.Get (flag false))

-- The name of `import a = require("m")` is a `const`, that of `import a = b.c` a `var`.
abbrev pub import_binding : Kind → Docs → Binding
import_binding k ds =
    if is_kind kind.TSExternalModuleReference (named (codes "moduleReference") k ds) then binding.Const else binding.Var

-- `import a = ..` sets its name to what it imports.
abbrev pub import_equals_word : Bool → Kind → Docs → OneField → List Entry
import_equals_word x k ds c =
    c (codes "moduleReference") way.Whole
    ++ (lone item.Set ++ c (codes "id") (way.Bound (import_binding k ds) x))

abbrev pub text_or_nil : Option (List ℕ) → Doc
text_or_nil None = nil
text_or_nil (Some t) = text t

-- a piece of a template with these texts
abbrev pub quasi_word : Option (List ℕ) → Option (List ℕ) → List Entry
quasi_word r o = start kind.TemplateElement (text_or_nil r ∷ text_or_nil o ∷ []) ++ lone item.Close
