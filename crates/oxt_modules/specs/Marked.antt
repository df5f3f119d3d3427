-- The names in `import a = B.C` that are no uses of what they mean, since nothing uses `a`.
use Rattle.std.specs.Prelude.{ℕ, ◌+◌, ◌≤◌, ◌==◌, nat_eq, List, [], ◌∷◌, ◌++◌, Bool, false, not, ◌&&◌, if◌then◌else◌, Option, None, Some, unwrap_or, map, slice_get, codes}
use Rattle.std.specs.Int.RustNames.{bit_and}
use Rattle.std.specs.Map.{lookup}
use Rattle.oxt_grammar.specs.Places.{same_kind}
use Rattle.oxt_grammar.specs.declared.kind.Kind.{Kind}
use Rattle.oxt_grammar.specs.declared.kind.Kind.TheVariants as kind
use Rattle.oxt_declares.specs.Imports.{is_alias}
use Rattle.oxt_modules.specs.Names.{has_value_use, is_used, is_value_use, references_of}
use Rattle.oxt_names.specs.declared.ids.ReferenceId.{ReferenceId}
use Rattle.oxt_names.specs.declared.ids.SymbolId.{SymbolId}
use Rattle.oxt_options.specs.Facts.{is_in}
use Rattle.oxt_options.specs.Options.{TypeScriptData}
use Rattle.oxt_scoping.specs.Meant.{symbol_in}
use Rattle.oxt_scoping.specs.Scoped.{Scoped, live_at}
use Rattle.oxt_scoping.specs.declared.entry.Reference.{Reference}
use Rattle.oxt_scoping.specs.declared.entry.Slot.{Slot}
use Rattle.oxt_search.specs.First.{first_in}
use Rattle.oxt_search.specs.Sought.{Sought}
use Rattle.oxt_tree.specs.declared.inside.Inside.TheVariants as inside
use Rattle.oxt_tree.specs.Doc.{Doc, node, Docs, no_docs, doc}
use Rattle.oxt_tree.specs.Fields.{elements, field_of, named}

-- ---- a table without the uses of some names

-- the reference, which is none where its name is one of these
abbrev pub unless : List ℕ → Slot → Slot
unless ms r = record r { is_live = r.is_live && not (is_in ms r.reference.node.0) }

-- the table, in which these names are no references
abbrev pub beside : List ℕ → Scoped → Scoped
beside ms s = record s { references = map (unless ms) s.references }

-- ---- the first name of a right side

-- the number of the node, if it is a bare name
abbrev pub name_of : Kind → ℕ → Option ℕ
name_of k i = if same_kind k kind.IdentifierReference then Some i else None

abbrev pub names : Sought (Unit {0}) ℕ
names = record { at = λ u k i ds. name_of k i; inside = λ u k i ds. inside.Alike u; in_field = λ u k r. Some u }

-- the first bare name in a right side; none stands in `require("m")`
abbrev pub name_in : Doc → Option ℕ
name_in (node k i b e ds) = first_in names (node k i b e ds) tt
name_in d = None

-- ---- statements

-- no value use beside the marked names means what the name declares
abbrev pub is_unused : Scoped → List ℕ → Doc → Bool
is_unused s ms (node k i b e ds) = not (is_used (beside ms s) i)
is_unused s ms d = false

-- the marked names with that one, if it is there and that is so
abbrev pub adds : List ℕ → Bool → Option ℕ → List ℕ
adds ms b None = ms
adds ms b (Some n) = if b then ms ++ n ∷ [] else ms

-- An `import =` without `export` whose name nothing uses marks the first name of its right side.
abbrev pub marked_by : Scoped → List ℕ → Doc → List ℕ
marked_by s ms (node k i b e ds) =
    if is_alias k ds
    then adds ms (is_unused s ms (named (codes "id") k ds)) (name_in (named (codes "moduleReference") k ds))
    else ms
marked_by s ms d = ms

-- the names that are marked by statements, of which the last is looked at first
abbrev pub marked_in : Scoped → Docs → List ℕ
marked_in s no_docs = []
marked_in s (doc d ds) = marked_by s (marked_in s ds) d

-- The names of a program that are no value uses; there are none where unused imports are kept.
abbrev pub marked : Scoped → Doc → TypeScriptData → List ℕ
marked s d o = if o.only_remove_type_imports then [] else marked_in s (elements (field_of (codes "body") d))

-- ---- how the program finds that out

-- a reference that does not stand in a type and is none of the marked names
abbrev pub is_value : List ℕ → Reference → Bool
is_value ms r = bit_and r.flags.0 4 == 0 && not (is_in ms r.node.0)

-- the reference is a value use beside the marked names
abbrev pub is_use : Scoped → List ℕ → ReferenceId → Bool
is_use s ms r = is_value_use (live_at (beside ms s).references r.0)

-- a value use beside the marked names means the symbol, if there is one
abbrev pub used_beside : Scoped → List ℕ → Option SymbolId → Bool
used_beside s ms o = has_value_use (beside ms s).references (references_of (symbol_in s.symbols o))

-- the place of the first that passes the test, and their number where none does
abbrev pub first_use : (ReferenceId → Bool) → List ReferenceId → ℕ
first_use p [] = 0
first_use p (r ∷ rs) = if p r then 0 else first_use p rs + 1

-- how many references to the symbol of that number were passed
abbrev pub passed_at : List (ℕ × ℕ) → ℕ → ℕ
passed_at es i = unwrap_or (lookup (nat_eq i) es) 0

-- None of the references that were passed is a value use beside the marked names.
abbrev pub IsPassed : Scoped → List ℕ → List (ℕ × ℕ) → Type 0
IsPassed s ms es = (i : ℕ) → passed_at es i ≤ first_use (is_use s ms) (references_of (slice_get s.symbols i))
