-- Private names of a class that a decorator uses.
use Rattle.std.specs.Prelude.{ℕ, List, Bool, true, false, not, ◌&&◌, ◌||◌, nat_eq, find, if◌then◌else◌, Option, None, Some, codes}
use Rattle.std.specs.List.{list_any}
use Rattle.std.specs.Option.{option_and_then}
use Rattle.oxt_faults.specs.Captured.{Capture}
use Rattle.oxt_search.specs.First.{first_among}
use Rattle.oxt_search.specs.Sought.{Sought}
use Rattle.oxt_tree.specs.declared.inside.Inside.TheVariants as inside
use Rattle.oxt_grammar.specs.Places.{same_kind}
use Rattle.oxt_grammar.specs.declared.kind.Kind.{Kind}
use Rattle.oxt_grammar.specs.declared.kind.Kind.TheVariants as kind
use Rattle.oxt_tree.specs.Doc.{Doc, Docs}
use Rattle.oxt_tree.specs.Fields.{docs_list, elements, field_of, is_kind, is_text, named, text_in}
use Rattle.oxt_declares.specs.Dropped.{inside_dropped_by, is_dropped, is_dropped_by}

-- ---- classes

-- the private name of an element of a class, if it has one
abbrev pub private_text : Doc → Option (List ℕ)
private_text d = text_in (field_of (codes "name") (field_of (codes "key") d))

-- an element of that private name
abbrev pub has_private : List ℕ → Doc → Bool
has_private x d =
    is_kind kind.PrivateIdentifier (field_of (codes "key") d)
    && is_text x (field_of (codes "name") (field_of (codes "key") d))

-- the body of a class that has such an element
abbrev pub declares : List ℕ → Kind → Docs → Bool
declares x k ds =
    same_kind k kind.ClassBody && list_any (has_private x) (docs_list (elements (named (codes "body") k ds)))

-- such an element that is not erased
abbrev pub is_own : List ℕ → Doc → Bool
is_own x d = has_private x d && not (is_dropped d)

-- the name, where one of the elements of a class is such
abbrev pub own_name : Docs → List ℕ → Option (List ℕ)
own_name es x = option_and_then private_text (find (is_own x) (docs_list es))

-- ---- uses

-- the fields of a node of that kind hold a use of a private name
abbrev pub holds_use : Kind → Bool
holds_use k = same_kind k kind.PrivateFieldExpression || same_kind k kind.PrivateInExpression

-- the number of a node that is a use of that name; the flag says that the node around holds one
abbrev pub use_at : List ℕ → Bool → Kind → ℕ → Docs → Option ℕ
use_at x u k i ds =
    if u && (same_kind k kind.PrivateIdentifier && is_text x (named (codes "name") k ds)) then Some i else None

-- each use of that name outside what is erased, and outside the bodies of classes that declare it
abbrev pub uses_of : List ℕ → Sought Bool ℕ
uses_of x =
    record {
      at = use_at x;
      inside = λ u k i ds.
          if is_dropped_by k ds then inside_dropped_by true k ds false
          else if declares x k ds then inside.Skipped
          else inside.Alike (holds_use k);
      in_field = λ u k r. Some u;
    }

-- the first in a decorator
abbrev pub first_use : List ℕ → Docs → Option ℕ
first_use x ds = first_among (uses_of x) ds false

-- ---- captured names

abbrev pub is_number : ℕ → Option ℕ → Bool
is_number i None = false
is_number i (Some j) = nat_eq j i

-- the name at that node, if that is the first use in a decorator with these fields of the name that is spelled so
abbrev pub use_as : Docs → ℕ → List ℕ → Option (List ℕ) → Option Capture
use_as d i x None = None
use_as d i x (Some y) = if is_number i (first_use x d) then Some (record { node = i; name = y }) else None

-- the same of a name that one of the elements of a class has
abbrev pub captured_name : Docs → Docs → ℕ → Option (List ℕ) → Option Capture
captured_name es d i None = None
captured_name es d i (Some x) = use_as d i x (own_name es x)

-- a use of a private name
abbrev pub captured_use : Docs → Docs → Bool → Kind → ℕ → Docs → Option Capture
captured_use es d u k i ds =
    if u && same_kind k kind.PrivateIdentifier then captured_name es d i (text_in (named (codes "name") k ds)) else None

-- each such use outside what is erased
abbrev pub captured_uses : Docs → Docs → Sought Bool Capture
captured_uses es d =
    record {
      at = captured_use es d;
      inside = λ u k i ds.
          if is_dropped_by k ds then inside_dropped_by true k ds false else inside.Alike (holds_use k);
      in_field = λ u k r. Some u;
    }

-- The first use in a decorator with these fields of a private name of the class with these elements, and not of a class in the
-- decorator.
abbrev pub private_capture : Docs → Docs → Option Capture
private_capture es d = first_among (captured_uses es d) d false
