-- What a program has of JSX outside erased code, and the names that this uses.
use Rattle.std.specs.Prelude.{ℕ, List, Bool, true, false, ◌&&◌, ◌||◌, ◌==◌, if◌then◌else◌, Option, None, Some}
use Rattle.std.specs.List.{before_first, list_any}
use Rattle.std.specs.Str.{bytes_eq}
use Rattle.oxt_modules.specs.declared.jsx.JsxNode.{JsxNode}
use Rattle.oxt_modules.specs.declared.jsx.JsxNode.TheVariants as jsx
use Rattle.oxt_modules.specs.declared.jsx.JsxUse.{JsxUse}
use Rattle.oxt_options.specs.Options.{TypeScriptData}
use Rattle.oxt_search.specs.All.{all_in}
use Rattle.oxt_search.specs.Sought.{Sought}
use Rattle.oxt_tree.specs.declared.inside.Inside.{Inside}
use Rattle.oxt_tree.specs.declared.inside.Inside.TheVariants as inside
use Rattle.oxt_grammar.specs.Places.{same_kind}
use Rattle.oxt_grammar.specs.declared.kind.Kind.{Kind}
use Rattle.oxt_grammar.specs.declared.kind.Kind.TheVariants as kind
use Rattle.oxt_tree.specs.Doc.{Doc, Docs, text}
use Rattle.oxt_declares.specs.Dropped.{inside_dropped_by, is_dropped_by}

-- what a node of that kind is of JSX
abbrev pub own_node : Kind → Option JsxNode
own_node k =
    if same_kind k kind.JSXElement then Some jsx.Element
    else if same_kind k kind.JSXFragment then Some jsx.Fragment
    else None

-- of what is erased nothing is looked at but decorators that are applied all the same
abbrev pub live_inside : Bool → Unit {0} → Kind → Docs → Inside (Unit {0})
live_inside legacy u k ds = if is_dropped_by k ds then inside_dropped_by legacy k ds u else inside.Alike u

-- each element and fragment, outside what is erased
abbrev pub sought : Bool → Sought (Unit {0}) JsxNode
sought legacy =
    record {
      at = λ u k i ds. own_node k;
      inside = λ u k i ds. live_inside legacy u k ds;
      in_field = λ u k r. Some u;
    }

-- those of a document
abbrev pub jsx_nodes : Bool → Doc → List JsxNode
jsx_nodes legacy d = all_in (sought legacy) d tt

abbrev pub is_element : JsxNode → Bool
is_element jsx.Element = true
is_element jsx.Fragment = false

abbrev pub is_fragment : JsxNode → Bool
is_fragment jsx.Element = false
is_fragment jsx.Fragment = true

-- what a document with these nodes has
abbrev pub use_of : List JsxNode → JsxUse
use_of ns = record { has_element = list_any is_element ns; has_fragment = list_any is_fragment ns }

-- Whether a document has an element, and whether it has a fragment, outside what is erased.
abbrev pub jsx_use : Bool → Doc → JsxUse
jsx_use legacy d = use_of (jsx_nodes legacy d)

-- the text before its first dot, whose code is 46; all of it where it has none
abbrev pub before_dot : List ℕ → List ℕ
before_dot t = before_first (λ b. b == 46) t

-- elements use the name at the head of the one option, and fragments that of the other
abbrev pub is_jsx_name : TypeScriptData → JsxUse → List ℕ → Bool
is_jsx_name o u t =
    (u.has_element && bytes_eq (before_dot o.jsx_pragma) t)
    || (u.has_fragment && bytes_eq (before_dot o.jsx_pragma_frag) t)

-- the document is the text of such a name
abbrev pub is_jsx_text : TypeScriptData → JsxUse → Doc → Bool
is_jsx_text o u (text t) = is_jsx_name o u t
is_jsx_text o u d = false
