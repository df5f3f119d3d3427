-- The blocks of enums and the names in types, in the order of the text.
use Rattle.std.specs.Prelude.{ℕ, List, Bool, true, false, not, ◌&&◌, if◌then◌else◌, Option, None, Some, option_map, codes}
use Rattle.std.specs.Str.{bytes_eq}
use Rattle.oxt_grammar.specs.Field.{Field}
use Rattle.oxt_grammar.specs.Places.{same_kind}
use Rattle.oxt_grammar.specs.declared.kind.Kind.{Kind}
use Rattle.oxt_grammar.specs.declared.kind.Kind.TheVariants as kind
use Rattle.oxt_metadata.specs.Meant.{declared_by}
use Rattle.oxt_metadata.specs.Shapes.{shape_of}
use Rattle.oxt_metadata.specs.declared.events.Around.{Around}
use Rattle.oxt_metadata.specs.declared.events.Around.TheVariants as around
use Rattle.oxt_metadata.specs.declared.events.Event.{Event}
use Rattle.oxt_metadata.specs.declared.events.Event.TheVariants as event
use Rattle.oxt_names.specs.declared.ids.SymbolId.{SymbolId}
use Rattle.oxt_scoping.specs.Meant.{meant}
use Rattle.oxt_scoping.specs.Scoped.{Scoped}
use Rattle.oxt_search.specs.All.{all_in}
use Rattle.oxt_search.specs.Sought.{Sought}
use Rattle.oxt_tree.specs.declared.inside.Inside.{Inside}
use Rattle.oxt_tree.specs.declared.inside.Inside.TheVariants as inside
use Rattle.oxt_tree.specs.Doc.{Doc, nil, flag, number, text, list, node, Docs}
use Rattle.oxt_tree.specs.Fields.{named}
use Rattle.oxt_declares.specs.Dropped.{is_declared_field, is_dropped_by}

-- ---- nodes

-- the walk enters a block around which that stands without an export: one that is exported from a namespace has lost it by then
abbrev pub is_counted : Around → Bool
is_counted around.Code = true
is_counted around.Namespace = true
is_counted a = false

-- a block of the enum of that symbol, if it counts and is not erased
abbrev pub block_of : Around → Kind → Docs → SymbolId → Option Event
block_of a k ds y =
    if is_counted a && not (is_dropped_by k ds) then Some (event.Block y (shape_of (node k 0 0 0 ds))) else None

abbrev pub block_by : Around → Kind → Docs → Option SymbolId → Option Event
block_by a k ds None = None
block_by a k ds (Some y) = block_of a k ds y

abbrev pub block_at : Scoped → Around → Kind → Docs → Option Event
block_at s a k ds = block_by a k ds (declared_by s (named (codes "id") k ds))

-- a name of that number that means a symbol
abbrev pub name_by : ℕ → SymbolId → Event
name_by i y = event.Name (record { 0 = i }) y

-- the name that a type is, if it means something
abbrev pub name_at : Scoped → Doc → Option Event
name_at s nil = None
name_at s (flag b) = None
name_at s (number n) = None
name_at s (text t) = None
name_at s (list ds) = None
name_at s (node k i b e ds) = option_map (name_by i) (meant s i)

abbrev pub event_at : Scoped → Around → Kind → ℕ → Docs → Option Event
event_at s a k i ds =
    if same_kind k kind.TSEnumDeclaration then block_at s a k ds
    else if same_kind k kind.TSTypeReference then name_at s (named (codes "typeName") k ds)
    else None

-- ---- what is around

-- of a declaration that is exported: one of a namespace, or one of the program
abbrev pub exported : Around → Around
exported around.Namespace = around.Code
exported a = around.Export

-- inside a node around which code stands
abbrev pub inside_code : Around → Kind → Docs → Inside Around
inside_code a k ds =
    if is_declared_field k ds then inside.ByField around.Declared
    else if is_dropped_by k ds then inside.Alike around.Erased
    else if same_kind k kind.ExportDeclaration then inside.Alike (exported a)
    else if same_kind k kind.TSModuleBlock then inside.Alike around.Namespace
    else inside.Alike around.Code

abbrev pub inside_around : Around → Kind → Docs → Inside Around
inside_around around.Erased k ds = inside.Alike around.Erased
inside_around a k ds = inside_code a k ds

-- the decorators of a field that is only declared are code, and all else of it is erased
abbrev pub field_around : Around → Field → Around
field_around around.Declared f = if bytes_eq f.name (codes "decorators") then around.Code else around.Erased
field_around a f = around.Erased

-- each of them; the state says what stands around
abbrev pub sought : Scoped → Sought Around Event
sought s =
    record {
      at = event_at s;
      inside = λ a k i ds. inside_around a k ds;
      in_field = λ a k f. Some (field_around a f);
    }

-- The blocks of enums outside erased code that stand without `export` once namespaces are lowered, and the types that are
-- single names which mean something, in the order of the text.
abbrev pub events : Scoped → Doc → List Event
events s d = all_in (sought s) d around.Code
