-- Names that lowered code has of its own, where they would mean a declaration.
use Rattle.std.specs.Prelude.{ℕ, List, Bool, false, not, ◌&&◌, ◌||◌, if◌then◌else◌, Option, None, Some, option_map, codes}
use Rattle.std.specs.Option.{option_or}
use Rattle.std.specs.Str.{bytes_eq}
use Rattle.oxt_declares.specs.Calls.{is_called, is_decorated}
use Rattle.oxt_faults.specs.Around.{is_class}
use Rattle.oxt_faults.specs.Captured.{Capture, emits_at}
use Rattle.oxt_faults.specs.Globals.{global_taken, no_globals, with_globals}
use Rattle.oxt_faults.specs.declared.free.FoundFree.{FoundFree}
use Rattle.oxt_faults.specs.declared.free.FreeWord.{FreeWord}
use Rattle.oxt_faults.specs.declared.free.FreeWord.TheVariants as word
use Rattle.oxt_faults.specs.declared.free.Taken.{Taken}
use Rattle.oxt_faults.specs.declared.globals.Globals.{Globals}
use Rattle.oxt_fields.specs.Rules.{Rules}
use Rattle.oxt_grammar.specs.Field.{Field}
use Rattle.oxt_grammar.specs.Places.{same_kind}
use Rattle.oxt_grammar.specs.declared.kind.Kind.{Kind}
use Rattle.oxt_grammar.specs.declared.kind.Kind.TheVariants as kind
use Rattle.oxt_declares.specs.Imports.{is_required}
use Rattle.oxt_names.specs.declared.ids.ScopeId.{ScopeId}
use Rattle.oxt_options.specs.Metadata.{text_of_global}
use Rattle.oxt_scoping.specs.Scoped.{Scoped, at_node}
use Rattle.oxt_search.specs.First.{first_in}
use Rattle.oxt_search.specs.Sought.{Sought}
use Rattle.oxt_tree.specs.declared.inside.Inside.{Inside}
use Rattle.oxt_tree.specs.declared.inside.Inside.TheVariants as inside
use Rattle.oxt_tree.specs.Doc.{Doc, node, Docs}
use Rattle.oxt_tree.specs.Fields.{field_of, is_set, is_text, named}
use Rattle.oxt_declares.specs.Dropped.{inside_dropped_by, is_dropped_by}

-- the names
abbrev pub text_of_free : FreeWord → List ℕ
text_of_free word.Module = codes "module"
text_of_free word.Require = codes "require"
text_of_free word.BabelHelpers = codes "babelHelpers"
text_of_free (word.Global g) = text_of_global g
text_of_free word.Value = codes "value"

abbrev pub free_view : FoundFree → Capture
free_view f = record { node = f.node.0; name = text_of_free f.word }

-- no declaration has one
abbrev pub nothing_taken : Taken
nothing_taken =
    record { «module» = false; require = false; helpers = false; globals = no_globals; is_called = false; is_value = false }

-- ---- nodes

-- a static `accessor`
abbrev pub is_static_accessor : Kind → Docs → Bool
is_static_accessor k ds = same_kind k kind.AccessorProperty && is_set (named (codes "static") k ds)

-- The name that is made for a node that is not erased, if it would mean a declaration: `module` for an `export =`, `require`
-- for an `import =` of a module that is kept, and `value` for a static `accessor` of a class of that name.
abbrev pub made_word : (ℕ → Bool) → Taken → Kind → ℕ → Docs → Option FreeWord
made_word ks t k i ds =
    if t.«module» && same_kind k kind.TSExportAssignment then Some word.Module
    else if t.require && (is_required k ds && ks i) then Some word.Require
    else if t.is_value && is_static_accessor k ds then Some word.Value
    else None

-- A call stands behind a class for a decorated element of a class declaration, and for a decorated class that is not erased,
-- where the flag says that decorators have their older meaning.
abbrev pub has_call : Bool → Taken → Kind → Docs → Bool
has_call legacy t k ds =
    legacy && ((t.is_called && is_called (node k 0 0 0 ds)) || (is_decorated (node k 0 0 0 ds) && not (is_dropped_by k ds)))

-- the name that is made for a call, if it would mean a declaration: `babelHelpers`, or a global name of metadata
abbrev pub word_of_call : Rules → Taken → Kind → Docs → Option FreeWord
word_of_call r t k ds =
    if t.helpers then Some word.BabelHelpers
    else option_map word.Global (global_taken r t.globals (node k 0 0 0 ds))

-- the same of a node, if it has a call, also where it is a field that is only declared
abbrev pub call_word : Rules → Taken → Kind → Docs → Option FreeWord
call_word r t k ds = if has_call r.legacy t k ds then word_of_call r t k ds else None

-- the name that is made for a node, if it would mean a declaration
abbrev pub word_at : Rules → (ℕ → Bool) → Taken → Kind → ℕ → Docs → Option FreeWord
word_at r ks t k i ds =
    option_or (call_word r t k ds) (if is_dropped_by k ds then None else made_word ks t k i ds)

abbrev pub at_number : ℕ → FreeWord → Capture
at_number i w = record { node = i; name = text_of_free w }

abbrev pub free_at : Rules → (ℕ → Bool) → Taken → Kind → ℕ → Docs → Option Capture
free_at r ks t k i ds = option_map (at_number i) (word_at r ks t k i ds)

-- ---- what is around

-- with the names that declarations in a scope have which emit code
abbrev pub globals_around : Rules → Scoped → Globals → ScopeId → Globals
globals_around r s t i = if r.emits then with_globals s t i else t

abbrev pub in_scope : Rules → Scoped → Taken → Option ScopeId → Taken
in_scope r s t None = t
in_scope r s t (Some i) =
    record {
      «module» = t.«module» || emits_at s (codes "module") i;
      require = t.require || emits_at s (codes "require") i;
      helpers = t.helpers || emits_at s (codes "babelHelpers") i;
      globals = globals_around r s t.globals i;
      is_called = t.is_called;
      is_value = t.is_value;
    }

-- with those of the scope that the node of that number opens
abbrev pub free_around : Rules → Scoped → Taken → ℕ → Taken
free_around r s t i = in_scope r s t (at_node (record { 0 = i }) s.opened)

-- of no element of a class
abbrev pub outside_class : Taken → Taken
outside_class t =
    record {
      «module» = t.«module»;
      require = t.require;
      helpers = t.helpers;
      globals = t.globals;
      is_called = false;
      is_value = false;
    }

-- a class of the name `value`
abbrev pub is_value_class : Kind → Docs → Bool
is_value_class k ds = is_text (codes "value") (field_of (codes "name") (named (codes "id") k ds))

-- of an element of a class
abbrev pub seen_from : Taken → Kind → Docs → Taken
seen_from t k ds =
    record {
      «module» = t.«module»;
      require = t.require;
      helpers = t.helpers;
      globals = t.globals;
      is_called = same_kind k kind.ClassDeclaration;
      is_value = is_value_class k ds;
    }

-- in a field of a class: its elements alone have to know of it
abbrev pub free_in : Taken → Field → Taken
free_in t r = if bytes_eq r.name (codes "body") then t else outside_class t

-- inside a node
abbrev pub free_inside : Rules → Scoped → Taken → Kind → ℕ → Docs → Inside Taken
free_inside r s t k i ds =
    if is_dropped_by k ds then inside_dropped_by r.legacy k ds (outside_class t)
    else if same_kind k kind.ClassBody then inside.Alike (free_around r s t i)
    else if r.legacy && is_class k then inside.ByField (seen_from (free_around r s t i) k ds)
    else inside.Alike (outside_class (free_around r s t i))

-- each such node; the state has what declarations around have
abbrev pub sought : Rules → Scoped → (ℕ → Bool) → Sought Taken Capture
sought r s ks = record { at = free_at r ks; inside = free_inside r s; in_field = λ t k f. Some (free_in t f) }

-- The first of a whole tree, in which that is kept.
abbrev pub free : Rules → Scoped → (ℕ → Bool) → Doc → Option Capture
free r s ks d = first_in (sought r s ks) d nothing_taken
