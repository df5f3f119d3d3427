-- How classes are read that are decorated, or whose elements are, with what is called behind them.
use Rattle.std.specs.Prelude.{ℕ, List, [], ◌∷◌, ◌++◌, Bool, true, false, if◌then◌else◌, Option, None, Some, codes}
use Rattle.oxt_facts.specs.Entry.{Entry, binding_text, detailed, lone, owned, spelled}
use Rattle.oxt_facts.specs.Facts.{Known}
use Rattle.oxt_facts.specs.Told.{Decorating, Described, Use, name_use, made_use}
use Rattle.oxt_facts.specs.declared.item.Binding.{Binding}
use Rattle.oxt_facts.specs.declared.item.Binding.TheVariants as binding
use Rattle.oxt_facts.specs.declared.item.ItemKind.TheVariants as item
use Rattle.oxt_forms.specs.Details.{start}
use Rattle.oxt_grammar.specs.declared.kind.Kind.TheVariants as kind
use Rattle.oxt_tree.specs.Doc.{flag, text}
use Rattle.oxt_items.specs.Calls.{kept_word, used_word}
use Rattle.oxt_items.specs.Enums.{is_exported, use_word}
use Rattle.oxt_items.specs.Helpers.{helper_start}
use Rattle.oxt_items.specs.Metadata.{metadata_word}
use Rattle.oxt_items.specs.Node.{OneField}
use Rattle.oxt_items.specs.Whole.{class_parts}
use Rattle.oxt_items.specs.declared.way.Way.{Way}
use Rattle.oxt_items.specs.declared.way.Way.TheVariants as way

-- the made name of that tag, declared as that, and exported or not
abbrev pub made_bind : Binding → Bool → List ℕ → List Entry
made_bind b x t = detailed item.BindMade (text t) (text (binding_text b) ∷ flag x ∷ [])

-- the name in a class, which may be a made one
abbrev pub inner_made : Option (List ℕ) → List Entry
inner_made None = lone item.Nil
inner_made (Some t) = made_bind binding.Inner false t

abbrev pub inner_used : Use → Option (List ℕ) → ℕ → List Entry
inner_used (name_use n g) o i = owned (Some i) item.Bind (text n) (text (binding_text binding.Inner) ∷ flag false ∷ [])
inner_used (made_use t) o i = inner_made o

abbrev pub inner_bind : Option Use → Option (List ℕ) → ℕ → List Entry
inner_bind None o i = inner_made o
inner_bind (Some u) o i = inner_used u o i

-- the name of a class, declared as that, and exported or not: the one that is written, or a made one
abbrev pub used_bind : Use → Binding → Bool → OneField → List Entry
used_bind (name_use n g) b x c = c (codes "id") (way.Bound b x)
used_bind (made_use t) b x c = made_bind b x t

abbrev pub class_bind : Option Use → Binding → Bool → OneField → List Entry
class_bind None b x c = c (codes "id") (way.Bound b x)
class_bind (Some u) b x c = used_bind u b x c

-- the calls of the decorators of its elements
abbrev pub element_calls : Bool → OneField → List Entry
element_calls b c = if b then c (codes "body") way.Calls else []

-- the same behind the class, where they belong to it
abbrev pub calls_behind : Bool → Way → OneField → List Entry
calls_behind b way.Uncalled c = []
calls_behind b w c = element_calls b c

-- a class that is not decorated itself
abbrev pub declared_class : Option Use → Bool → OneField → List Entry
declared_class u x c =
    start kind.ClassDeclaration [] ++ (class_parts c ++ (lone item.Close ++ class_bind u binding.Class x c))

-- a made name then holds the class where it is declared, if one does and no static part of the class keeps it
abbrev pub kept_there : Bool → Option (List ℕ) → List Entry
kept_there b t = if b then kept_word t else []

-- a decorated class, which is set
abbrev pub set_class : Decorating → OneField → List Entry
set_class d c =
    start kind.ClassExpression []
    ++ (inner_bind d.name d.inner d.number
    ++ (class_parts c
    ++ (lone item.Close
    ++ (kept_there d.keeps_alias d.alias ++ (lone item.Set ++ class_bind d.name binding.Let false c)))))

-- the decorators of a class and of the parameters of its constructor, with that metadata last
abbrev pub class_list : Known → Described → OneField → List Entry
class_list f m c =
    start kind.ArrayExpression []
    ++ (c (codes "decorators") way.Applied
    ++ (c (codes "body") way.Injected ++ (metadata_word f m ++ lone item.Close)))

-- the call of these
abbrev pub class_call : Known → Described → Use → OneField → List Entry
class_call f m u c = helper_start (codes "decorate") ++ (class_list f m c ++ (used_word u ++ lone item.Close))

-- that call is assigned to the name of the class, and a made name holds it, if one holds the class
abbrev pub assigned_call : Known → Described → Use → Option (List ℕ) → OneField → List Entry
assigned_call f m (name_use n g) a c =
    start kind.AssignmentExpression (text (codes "=") ∷ [])
    ++ (use_word n g ++ (class_call f m (name_use n g) c ++ (kept_word a ++ (lone item.Close ++ lone item.Eval))))
assigned_call f m (made_use t) a c = class_call f m (made_use t) c ++ (kept_word a ++ spelled item.Keep (text t))

abbrev pub own_call : Known → Described → Option Use → Option (List ℕ) → OneField → List Entry
own_call f m None a c = []
own_call f m (Some u) a c = assigned_call f m u a c

-- a name that is exported behind its declaration
abbrev pub exported_name : List ℕ → Option ℕ → List Entry
exported_name n g =
    start kind.ExportNamedDeclaration []
    ++ (start kind.ExportSpecifier []
    ++ (use_word n g
    ++ (start kind.IdentifierName (text n ∷ []) ++ (lone item.Close ++ (lone item.Close ++ lone item.Close)))))

abbrev pub exported_use : Use → List Entry
exported_use (name_use n g) = exported_name n g
exported_use (made_use t) = []

abbrev pub exported_behind : Bool → Option Use → List Entry
exported_behind x None = []
exported_behind x (Some u) = if x then exported_use u else []

-- A decorated class is set, its elements are decorated, and then it itself; it is exported behind that.
abbrev pub decorated_class : Known → Decorating → Way → OneField → List Entry
decorated_class f d w c =
    set_class d c
    ++ (calls_behind d.has_calls w c
    ++ (own_call f d.metadata d.name d.alias c ++ exported_behind (is_exported w) d.name))

-- A class with calls behind it, or a decorated one; or these calls alone.
abbrev pub decorated_word : Known → Decorating → Way → OneField → List Entry
decorated_word f d way.Calls c = element_calls d.has_calls c
decorated_word f d w c =
    if d.is_decorated then decorated_class f d w c
    else declared_class d.name (is_exported w) c ++ calls_behind d.has_calls w c

-- A nameless expression of a class has the made name of that tag inside.
abbrev pub titled_class : List ℕ → OneField → List Entry
titled_class t c =
    start kind.ClassExpression [] ++ (made_bind binding.Inner false t ++ (class_parts c ++ lone item.Close))

-- As a key it is computed, and has no text.
abbrev pub titled_word : List ℕ → Way → OneField → List Entry
titled_word t way.Keyed c = titled_class t c ++ lone item.Key
titled_word t way.KeyText c = []
titled_word t w c = titled_class t c

-- A default export of a decorated class is that class and then the export of its name; that of another one is the class, and then
-- what is called behind it.
abbrev pub default_class_word : Bool → Use → OneField → List Entry
default_class_word b u c =
    if b
    then c (codes "declaration") way.Whole
    ++ (start kind.ExportDefaultDeclaration [] ++ (used_word u ++ lone item.Close))
    else start kind.ExportDefaultDeclaration []
    ++ (c (codes "declaration") way.Uncalled ++ (lone item.Close ++ c (codes "declaration") way.Calls))
