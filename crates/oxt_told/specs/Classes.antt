-- What is told of classes: of themselves, of their bodies what constructors put on objects, and of their elements.
use Rattle.std.specs.Prelude.{ℕ, List, [], ◌∷◌, ◌++◌, map, Bool, false, not, ◌&&◌, ◌||◌, if◌then◌else◌, Option, None, Some, is_some, codes}
use Rattle.std.specs.List.{list_any}
use Rattle.std.specs.Str.{bytes_eq}
use Rattle.oxt_facts.specs.Told.{Gaining, Tellings, gains}
use Rattle.oxt_fields.specs.Classes.{constructor_in, elements_of, is_derived, is_property, parameters_of, statements_of, super_call_position}
use Rattle.oxt_fields.specs.Fates.{hoists_private, is_field, is_static, moves_to_constructor}
use Rattle.oxt_fields.specs.Rules.{Rules}
use Rattle.oxt_grammar.specs.Places.{same_kind}
use Rattle.oxt_grammar.specs.declared.kind.Kind.{Kind}
use Rattle.oxt_grammar.specs.declared.kind.Kind.TheVariants as kind
use Rattle.oxt_scoping.specs.Scoped.{Scoped}
use Rattle.oxt_told.specs.Calls.{common_of, elements_told}
use Rattle.oxt_told.specs.Decorated.{class_itself_told, lowering_of}
use Rattle.oxt_told.specs.Namespaces.{node_names, with_groups}
use Rattle.oxt_told.specs.Symbols.{number_in}
use Rattle.oxt_told.specs.Tags.{alias_part, tag_for}
use Rattle.oxt_told.specs.Uses.{inner_told}
use Rattle.oxt_told.specs.declared.lowering.Lowering.{Lowering}
use Rattle.oxt_tree.specs.Bound.{Bound}
use Rattle.oxt_tree.specs.Doc.{Doc, nil, flag, number, text, list, node, Docs, no_docs, doc}
use Rattle.oxt_tree.specs.Fields.{docs_list, field_of, is_kind, named, text_in}

-- the kinds of classes
abbrev pub is_class : Kind → Bool
is_class k = same_kind k kind.ClassDeclaration || same_kind k kind.ClassExpression

-- ---- parameter properties

-- the parameters of a constructor, if there is one
abbrev pub parameters_in : Option Doc → Docs
parameters_in None = no_docs
parameters_in (Some d) = parameters_of d

-- how many of its statements stand before what is put, so
abbrev pub place_in : Option Doc → ℕ
place_in None = 0
place_in (Some d) = super_call_position (statements_of d)

-- the name of a parameter, if that is a property
abbrev pub property_name : Doc → List Bound
property_name d = if is_property d then node_names (field_of (codes "pattern") d) else []

-- one of the parameters is a property
abbrev pub has_properties : Docs → Bool
has_properties ds = list_any is_property (docs_list ds)

-- the names of those that are
abbrev pub property_names : Docs → List Bound
property_names no_docs = []
property_names (doc d ds) = property_name d ++ property_names ds

-- an element that objects get as their own: an instance field without `declare`, or an instance accessor that stays one
abbrev pub is_own : Rules → Kind → Docs → Bool
is_own r k ds = not (is_static k ds) && ((not r.legacy && same_kind k kind.AccessorProperty) || is_field k ds)

-- the text of an identifier that is a key
abbrev pub identifier_in : Doc → Option (List ℕ)
identifier_in d = if is_kind kind.IdentifierName d then text_in (field_of (codes "name") d) else None

-- the identifier that is the key of such an element
abbrev pub own_name : Rules → Doc → Option (List ℕ)
own_name r nil = None
own_name r (flag b) = None
own_name r (number n) = None
own_name r (text t) = None
own_name r (list ds) = None
own_name r (node k i b e ds) = if is_own r k ds then identifier_in (named (codes "key") k ds) else None

-- the text is that name, if there is one
abbrev pub is_name : Option (List ℕ) → List ℕ → Bool
is_name None t = false
is_name (Some n) t = bytes_eq t n

-- the text is the key of one of these elements
abbrev pub is_own_name : Rules → Docs → List ℕ → Bool
is_own_name r no_docs t = false
is_own_name r (doc d ds) t = is_name (own_name r d) t || is_own_name r ds t

-- the names without those that are taken; each takes itself
abbrev pub free_names : (List ℕ → Bool) → List (List ℕ) → List (List ℕ)
free_names taken [] = []
free_names taken (n ∷ ns) = if taken n then free_names taken ns else n ∷ free_names (λ t. taken t || bytes_eq t n) ns

-- the empty fields that are put in front of these elements for properties of these names
abbrev pub empty_fields : Rules → Docs → List Bound → List (List ℕ)
empty_fields r es ps = if r.moves || r.drops then [] else free_names (is_own_name r es) (map (λ p. p.name) ps)

-- ---- classes

-- one of these elements is a field that moves into the constructor
abbrev pub has_moving : Rules → Docs → Bool
has_moving r es = list_any (moves_to_constructor r (hoists_private es)) (docs_list es)

-- A class with these elements has parameter properties, or a field that moves into the constructor.
abbrev pub is_gaining : Rules → Docs → Bool
is_gaining r es =
    has_properties (parameters_in (constructor_in es)) || has_moving r es

-- the body of a class of that number with these elements, which extends another or not: what its constructor puts on objects, and
-- what decorators have in it
abbrev pub gaining_of : Scoped → Rules → Lowering → ℕ → Bool → Docs → Gaining
gaining_of s r w i derived es =
    record {
      gains = is_gaining r es;
      fields = empty_fields r es (property_names (parameters_in (constructor_in es)));
      properties = with_groups s (property_names (parameters_in (constructor_in es)));
      place = place_in (constructor_in es);
      has_constructor = is_some (constructor_in es);
      is_derived = derived;
      alias = tag_for alias_part w.has_front (Some i);
      has_calls = w.is_inside;
    }

-- that of the body of that number
abbrev pub body_told : Option ℕ → Gaining → Tellings
body_told None g = []
body_told (Some i) g = (i, gains g) ∷ []

-- the body of a class has more in it than is written there
abbrev pub has_more : Rules → Lowering → Docs → Bool
has_more r w es = w.has_front || (w.is_inside || is_gaining r es)

abbrev pub gains_told : Scoped → Rules → Lowering → ℕ → Doc → Tellings
gains_told s r w i d =
    if has_more r w (elements_of d)
    then body_told (number_in (field_of (codes "body") d)) (gaining_of s r w i (is_derived d) (elements_of d))
    else []

-- a class of that number, of which decorators make that: itself, its body, its elements, and the uses of its inner name
abbrev pub parts_told : Scoped → Rules → Lowering → ℕ → Doc → Tellings
parts_told s r w i d =
    class_itself_told s r w i d
    ++ (gains_told s r w i d
    ++ (elements_told r (common_of s w i d) false (elements_of d) ++ inner_told s w i d))

abbrev pub class_told : Scoped → Rules → ℕ → Doc → Tellings
class_told s r i d = parts_told s r (lowering_of r i d) i d
