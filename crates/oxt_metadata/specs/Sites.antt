-- Where the annotations stand of which metadata tells.
use Rattle.std.specs.Prelude.{ℕ, List, Bool, true, false, not, ◌&&◌, ◌||◌, if◌then◌else◌, Option, None, Some, codes}
use Rattle.std.specs.Str.{bytes_eq}
use Rattle.oxt_declares.specs.Calls.{is_called, is_constructor, is_decorated}
use Rattle.oxt_grammar.specs.Field.{Field}
use Rattle.oxt_grammar.specs.Places.{same_kind}
use Rattle.oxt_grammar.specs.declared.kind.Kind.{Kind}
use Rattle.oxt_grammar.specs.declared.kind.Kind.TheVariants as kind
use Rattle.oxt_metadata.specs.Typings.{is_awaited}
use Rattle.oxt_metadata.specs.declared.site.Site.{Site}
use Rattle.oxt_metadata.specs.declared.site.Site.TheVariants as site
use Rattle.oxt_tree.specs.declared.inside.Inside.{Inside}
use Rattle.oxt_tree.specs.declared.inside.Inside.TheVariants as inside
use Rattle.oxt_tree.specs.Doc.{Doc, node, Docs}
use Rattle.oxt_tree.specs.Fields.{field_of, is_text}
use Rattle.oxt_names.specs.declared.ids.NodeId.{NodeId}
use Rattle.oxt_declares.specs.Dropped.{inside_dropped_by, is_declared_field, is_dropped_by}

-- ---- nodes

-- Metadata writes what a method returns: it is no setter, and not async, unless it is a getter.
abbrev pub returns_written : Doc → Bool
returns_written d =
    is_text (codes "get") (field_of (codes "kind") d)
    || not (is_text (codes "set") (field_of (codes "kind") d) || is_awaited d)

-- inside an element of a class that gives a call
abbrev pub called_inside : NodeId → Kind → Docs → Inside Site
called_inside c k ds =
    if same_kind k kind.MethodDefinition then inside.ByField (site.Method c (returns_written (node k 0 0 0 ds)))
    else inside.ByField (site.Annotated c)

-- inside one that is erased: of a decorated field that is only declared the annotation is written
abbrev pub erased_inside : NodeId → Kind → Docs → Inside Site
erased_inside c k ds =
    if is_declared_field k ds && is_called (node k 0 0 0 ds) then inside.ByField (site.Declared c) else inside.Skipped

-- inside an element of a class, which is itself decorated or not
abbrev pub element_inside : NodeId → Bool → Kind → Docs → Inside Site
element_inside c b k ds =
    if is_dropped_by k ds then erased_inside c k ds
    else if is_called (node k 0 0 0 ds) then called_inside c k ds
    else if b && is_constructor (node k 0 0 0 ds) then inside.ByField (site.Method c false)
    else inside.Alike site.Code

-- inside other code
abbrev pub code_inside : Kind → ℕ → Docs → Inside Site
code_inside k i ds =
    if is_dropped_by k ds then inside_dropped_by true k ds site.Code
    else if same_kind k kind.ClassDeclaration then inside.ByField (site.Body (record { 0 = i }) (is_decorated (node k 0 0 0 ds)))
    else inside.Alike site.Code

-- inside a node that stands there
abbrev pub inside_site : Site → Kind → ℕ → Docs → Inside Site
inside_site site.Code k i ds = code_inside k i ds
inside_site (site.Body c b) k i ds =
    if same_kind k kind.ClassBody then inside.Alike (site.Body c b) else element_inside c b k ds
inside_site (site.Annotation c) k i ds = inside.Skipped
inside_site (site.Annotated c) k i ds = inside.ByField (site.Annotated c)
inside_site (site.Declared c) k i ds = inside.ByField (site.Declared c)
inside_site (site.Method c b) k i ds = inside.ByField (site.Method c b)
inside_site (site.Function c b) k i ds = inside.ByField (site.Function c b)
inside_site (site.Parameters c) k i ds = inside.ByField (site.Parameters c)

-- ---- their fields

-- the field of that name is reached so, and others are code
abbrev pub with : List ℕ → Site → Field → Option Site
with name q f = if bytes_eq f.name name then Some q else Some site.Code

-- of a field that is only declared nothing but its decorators and its annotation is looked at
abbrev pub declared_field : NodeId → Field → Option Site
declared_field c f =
    if bytes_eq f.name (codes "typeAnnotation") then Some (site.Annotation c)
    else if bytes_eq f.name (codes "decorators") then Some site.Code
    else None

-- of the function of a method, which is written by what it returns or not
abbrev pub function_field : NodeId → Bool → Field → Site
function_field c b f =
    if bytes_eq f.name (codes "params") then site.Parameters c
    else if b && bytes_eq f.name (codes "returnType") then site.Annotation c
    else site.Code

-- a field of a node that stands there
abbrev pub field_site : Site → Field → Option Site
field_site site.Code f = Some site.Code
field_site (site.Body c b) f = with (codes "body") (site.Body c b) f
field_site (site.Annotated c) f = with (codes "typeAnnotation") (site.Annotation c) f
field_site (site.Declared c) f = declared_field c f
field_site (site.Method c b) f = with (codes "value") (site.Function c b) f
field_site (site.Function c b) f = Some (function_field c b f)
field_site (site.Parameters c) f = Some (site.Annotated c)
field_site (site.Annotation c) f = Some site.Code
