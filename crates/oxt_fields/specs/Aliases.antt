-- Names that are read as the alias of a decorated class.
use Rattle.std.specs.Prelude.{ℕ, List, [], ◌∷◌, ◌++◌, Bool, true, false, not, ◌&&◌, ◌||◌, ◌==◌, nat_eq, if◌then◌else◌, Option, None, Some, codes}
use Rattle.std.specs.List.{list_any}
use Rattle.std.specs.Str.{bytes_eq}
use Rattle.oxt_declares.specs.Calls.{elements_of, is_constructor, is_decorated}
use Rattle.oxt_fields.specs.Fates.{fate_by}
use Rattle.oxt_fields.specs.Rules.{Rules}
use Rattle.oxt_fields.specs.declared.alias.Place.{Place}
use Rattle.oxt_fields.specs.declared.alias.Place.TheVariants as place
use Rattle.oxt_fields.specs.declared.fate.Fate.{Fate}
use Rattle.oxt_fields.specs.declared.fate.Fate.TheVariants as fates
use Rattle.oxt_grammar.specs.Field.{Field}
use Rattle.oxt_grammar.specs.Places.{kind_in, same_kind}
use Rattle.oxt_grammar.specs.declared.category.Category.TheVariants as category
use Rattle.oxt_grammar.specs.declared.kind.Kind.{Kind}
use Rattle.oxt_grammar.specs.declared.kind.Kind.TheVariants as kind
use Rattle.oxt_names.specs.declared.ids.SymbolId.{SymbolId}
use Rattle.oxt_scoping.specs.Meant.{meant}
use Rattle.oxt_scoping.specs.Scoped.{Scoped, at_node}
use Rattle.oxt_search.specs.All.{all_among, all_in}
use Rattle.oxt_search.specs.Sought.{Sought}
use Rattle.oxt_tree.specs.declared.inside.Inside.{Inside}
use Rattle.oxt_tree.specs.declared.inside.Inside.TheVariants as inside
use Rattle.oxt_tree.specs.Doc.{Doc, nil, flag, number, text, list, node, Docs}
use Rattle.oxt_tree.specs.Fields.{field_of}
use Rattle.oxt_declares.specs.Dropped.{inside_dropped_by, is_declared_field, is_dropped_by}

-- ---- how the body of a class is searched

-- a type, or what holds nothing but types
abbrev pub type_kinds : List Kind
type_kinds =
    kind.TSTypeAnnotation ∷ kind.TSTypeParameterDeclaration ∷ kind.TSTypeParameterInstantiation ∷ kind.TSClassImplements ∷ []

abbrev pub is_type : Kind → Bool
is_type k = kind_in category.TSType k || list_any (λ j. same_kind k j) type_kinds

abbrev pub is_gone : Fate → Bool
is_gone fates.Stays = false
is_gone fates.Goes = true
is_gone fates.LeavesKey = false
is_gone (fates.Moves stays has_temporary) = false

-- an element of the class: of one that is erased nothing counts, unless it is a field that is only declared
abbrev pub inside_element : Kind → Docs → Inside Place
inside_element k ds =
    if is_dropped_by k ds && not (is_declared_field k ds) then inside.Skipped
    else if is_constructor (node k 0 0 0 ds) then inside.ByField place.Undecorated
    else inside.ByField place.Element

-- other code that is erased: of a field that is only declared nothing but its decorators and its annotation is looked at
abbrev pub inside_erased : Kind → Docs → Inside Place
inside_erased k ds = if is_declared_field k ds then inside.ByField place.Declared else inside.Skipped

-- other code: erased code does not count, and not the key of an empty field that goes and leaves nothing
abbrev pub inside_code : Rules → Kind → Docs → Inside Place
inside_code r k ds =
    if is_type k then inside.Alike place.Type
    else if is_dropped_by k ds then inside_erased k ds
    else if is_gone (fate_by r false k ds) then inside.ByField place.Keyless
    else inside.Alike place.Code

abbrev pub inside_by : Rules → Place → Kind → Docs → Inside Place
inside_by r place.Element k ds = inside_element k ds
inside_by r place.Function k ds = inside.ByField place.Function
inside_by r place.Parameters k ds = inside.ByField place.Parameters
inside_by r place.Undecorated k ds = inside.ByField place.Undecorated
inside_by r place.Keyless k ds = inside.ByField place.Keyless
inside_by r place.Code k ds = inside_code r k ds
inside_by r place.Declared k ds = inside.ByField place.Declared
inside_by r place.Type k ds = inside.Alike place.Type

-- code, unless it is the field of that name
abbrev pub but : List ℕ → Field → Option Place
but name f = if bytes_eq f.name name then None else Some place.Code

-- the field of that name is reached so, and others as code
abbrev pub with : List ℕ → Place → Field → Option Place
with name p f = if bytes_eq f.name name then Some p else Some place.Code

-- what an element of the class has beside its decorators
abbrev pub in_element : Kind → Field → Option Place
in_element k f =
    if same_kind k kind.MethodDefinition && bytes_eq f.name (codes "value") then Some place.Function
    else but (codes "decorators") f

-- of a field that is only declared: its decorators, and its annotation
abbrev pub in_declared : Field → Option Place
in_declared f =
    if bytes_eq f.name (codes "decorators") then Some place.Code
    else if bytes_eq f.name (codes "typeAnnotation") then Some place.Type
    else None

-- How the fields of a node are reached: an element, or one of the parameters of a method, without its own decorators, which do
-- not see the class; the parameters of a constructor with theirs.
abbrev pub field_by : Place → Kind → Field → Option Place
field_by place.Element k f = in_element k f
field_by place.Function k f = with (codes "params") place.Parameters f
field_by place.Parameters k f = with (codes "items") place.Undecorated f
field_by place.Undecorated k f = but (codes "decorators") f
field_by place.Keyless k f = but (codes "key") f
field_by place.Code k f = Some place.Code
field_by place.Declared k f = in_declared f
field_by place.Type k f = Some place.Type

-- ---- uses

-- both are one symbol
abbrev pub same_symbol : Option SymbolId → Option SymbolId → Bool
same_symbol None o = false
same_symbol (Some i) None = false
same_symbol (Some i) (Some j) = nat_eq i.0 j.0

-- the node of that number with the class, if it is a name that means the symbol
abbrev pub use_at : Scoped → Option SymbolId → ℕ → Kind → ℕ → Option (ℕ × ℕ)
use_at s y c k i = if same_kind k kind.IdentifierReference && same_symbol (meant s i) y then Some (i, c) else None

-- a name is written by the metadata of a class, and of another one than that
abbrev pub is_written_inside : ℕ → Option ℕ → Bool
is_written_inside c None = false
is_written_inside c (Some w) = not (w == c)

-- a name of that number counts there: in a type one that the metadata of a class inside that one writes as a value
abbrev pub is_seen : Rules → Place → ℕ → ℕ → Bool
is_seen r place.Type c i = is_written_inside c (r.written i)
is_seen r p c i = true

-- the uses of the class with that symbol and number
abbrev pub uses : Scoped → Rules → Option SymbolId → ℕ → Sought Place (ℕ × ℕ)
uses s r y c =
    record {
      at = λ p k i ds. if is_seen r p c i then use_at s y c k i else None;
      inside = λ p k i ds. inside_by r p k ds;
      in_field = λ p k f. field_by p k f;
    }

-- the symbol that the node declares
abbrev pub declared_by : Scoped → Doc → Option SymbolId
declared_by s nil = None
declared_by s (flag b) = None
declared_by s (number n) = None
declared_by s (text t) = None
declared_by s (list ds) = None
declared_by s (node k i b e ds) = at_node (record { 0 = i }) s.declared

-- those in the body of a class of that number
abbrev pub class_uses : Scoped → Rules → ℕ → Doc → List (ℕ × ℕ)
class_uses s r i d = all_among (uses s r (declared_by s (field_of (codes "id") d)) i) (elements_of d) place.Element

-- ---- decorated classes

-- a decorated class that is not erased itself
abbrev pub is_live_class : Kind → Docs → Bool
is_live_class k ds = not (is_dropped_by k ds) && is_decorated (node k 0 0 0 ds)

-- such a class gives its uses
abbrev pub uses_at : Scoped → Rules → Kind → ℕ → Docs → Option (List (ℕ × ℕ))
uses_at s r k i ds =
    if is_live_class k ds then Some (class_uses s r i (node k 0 0 0 ds)) else None

abbrev pub live_inside : Kind → Docs → Inside (Unit {0})
live_inside k ds = if is_dropped_by k ds then inside_dropped_by true k ds tt else inside.Alike tt

abbrev pub decorated : Scoped → Rules → Sought (Unit {0}) (List (ℕ × ℕ))
decorated s r =
    record {
      at = λ u k i ds. uses_at s r k i ds;
      inside = λ u k i ds. live_inside k ds;
      in_field = λ u k f. Some u;
    }

-- lists one behind the other
abbrev pub joined : List (List (ℕ × ℕ)) → List (ℕ × ℕ)
joined [] = []
joined (x ∷ xs) = x ++ joined xs

-- The names that are read as the alias of a decorated class, each with the number of the class: those that mean it, in its body.
-- The decorators of its elements and of the parameters of its methods do not count, but those of the parameters of its
-- constructor do; nor do types, but for names that the metadata of a class inside the body writes as values, erased code, and keys
-- of fields that a class inside the body drops.
abbrev pub alias_uses : Scoped → Rules → Doc → List (ℕ × ℕ)
alias_uses s r d = if r.legacy then joined (all_in (decorated s r) d tt) else []
