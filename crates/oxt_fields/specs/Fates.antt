-- What becomes of the fields of a class.
use Rattle.std.specs.Prelude.{List, [], ◌∷◌, Bool, true, false, not, ◌&&◌, ◌||◌, if◌then◌else◌, Option, None, Some, codes}
use Rattle.std.specs.List.{list_any}
use Rattle.std.specs.Option.{is_some, option_or}
use Rattle.oxt_declares.specs.Calls.{has_any, is_called}
use Rattle.oxt_fields.specs.Rules.{Rules}
use Rattle.oxt_fields.specs.declared.fate.Fate.{Fate}
use Rattle.oxt_fields.specs.declared.fate.Fate.TheVariants as fates
use Rattle.oxt_grammar.specs.Places.{same_kind}
use Rattle.oxt_grammar.specs.declared.category.Category.TheVariants as category
use Rattle.oxt_grammar.specs.declared.kind.Kind.{Kind}
use Rattle.oxt_grammar.specs.declared.kind.Kind.TheVariants as kind
use Rattle.oxt_names.specs.Constant.{Constant, integer, is_negative, string}
use Rattle.oxt_tree.specs.Doc.{Doc, nil, flag, number, text, list, node, Docs}
use Rattle.oxt_tree.specs.Fields.{docs_list, elements, is_in, is_kind, is_nil, is_set, named}
use Rattle.oxt_tree.specs.Inner.{inner_expression}

-- ---- keys

-- the kinds of keys that can be written twice: names, and literals
abbrev pub steady_kinds : List Kind
steady_kinds =
    kind.IdentifierName ∷ kind.PrivateIdentifier ∷ kind.BooleanLiteral ∷ kind.NullLiteral ∷ kind.NumericLiteral ∷
    kind.StringLiteral ∷ kind.BigIntLiteral ∷ kind.RegExpLiteral ∷ []

abbrev pub is_steady_kind : Kind → Bool
is_steady_kind k = list_any (λ j. same_kind k j) steady_kinds

-- A key needs a temporary if it is an expression, but neither a literal nor a name that nothing writes to.
abbrev pub needs_temporary : Rules → Doc → Bool
needs_temporary r nil = false
needs_temporary r (flag b) = false
needs_temporary r (number n) = false
needs_temporary r (text t) = false
needs_temporary r (list ds) = false
needs_temporary r (node k i b e ds) = not (is_steady_kind k) && not (r.never i)

-- the constant of an expression that is inlined
abbrev pub constant_of : Rules → Doc → Option Constant
constant_of r nil = None
constant_of r (flag b) = None
constant_of r (number n) = None
constant_of r (text t) = None
constant_of r (list ds) = None
constant_of r (node k i b e ds) = r.inlined i

-- that of a key, or of what stands inside its wrappers and parentheses
abbrev pub key_constant : Rules → Doc → Option Constant
key_constant r d = option_or (constant_of r d) (constant_of r (inner_expression d))

-- a key without the wrappers around it; parentheses stay that stand around all
abbrev pub unwrapped : Doc → Doc
unwrapped d = if is_in category.Wrapper d then inner_expression d else d

-- A key keeps its empty field by its constant, which is written as a literal: where that is negative. Without one it does
-- so by itself.
abbrev pub keeps_as : Option Constant → Bool → Bool
keeps_as None b = b
keeps_as (Some (string t)) b = false
keeps_as (Some (integer z)) b = is_negative z

-- a name that is read as the alias of a decorated class
abbrev pub is_alias : Rules → Doc → Bool
is_alias r nil = false
is_alias r (flag b) = false
is_alias r (number n) = false
is_alias r (text t) = false
is_alias r (list ds) = false
is_alias r (node k i b e ds) = is_some (r.alias i)

-- A key keeps its empty field, though such are dropped, where it needs a temporary once wrappers are erased and constants
-- are written in their places, or is an alias.
abbrev pub keeps_empty : Rules → Doc → Bool
keeps_empty r d = keeps_as (key_constant r d) (needs_temporary r (unwrapped d) || is_alias r (unwrapped d))

-- the kinds of keys that the call behind a class repeats: names, and some literals
abbrev pub repeated_kinds : List Kind
repeated_kinds =
    kind.IdentifierName ∷ kind.PrivateIdentifier ∷ kind.StringLiteral ∷ kind.NumericLiteral ∷ kind.NullLiteral ∷ []

abbrev pub is_repeated_kind : Kind → Bool
is_repeated_kind k = list_any (λ j. same_kind k j) repeated_kinds

-- a template without expressions
abbrev pub is_plain_template : Kind → Docs → Bool
is_plain_template k ds = same_kind k kind.TemplateLiteral && not (has_any (elements (named (codes "expressions") k ds)))

-- a key that the call does not repeat, once it is written so
abbrev pub is_held : Doc → Bool
is_held nil = false
is_held (flag b) = false
is_held (number n) = false
is_held (text t) = false
is_held (list ds) = false
is_held (node k i b e ds) = not (is_repeated_kind k || is_plain_template k ds)

-- The key of an element needs a temporary for the call behind its class unless the call repeats it, once wrappers are erased
-- and constants are written in their places.
abbrev pub needs_call_temporary : Rules → Doc → Bool
needs_call_temporary r d = keeps_as (key_constant r d) (is_held (unwrapped d))

-- an element that gives a call with such a temporary, where decorators are lowered
abbrev pub holds_call_key : Rules → Kind → Docs → Bool
holds_call_key r k ds =
    r.legacy && (is_called (node k 0 0 0 ds) && needs_call_temporary r (named (codes "key") k ds))

-- ---- fields

-- a field that is not only declared
abbrev pub is_field : Kind → Docs → Bool
is_field k ds = same_kind k kind.PropertyDefinition && not (is_set (named (codes "declare") k ds))

abbrev pub is_static : Kind → Docs → Bool
is_static k ds = is_set (named (codes "static") k ds)

abbrev pub is_private : Kind → Docs → Bool
is_private k ds = is_kind kind.PrivateIdentifier (named (codes "key") k ds)

abbrev pub has_value : Kind → Docs → Bool
has_value k ds = not (is_nil (named (codes "value") k ds))

-- an instance field, neither private nor only declared, that has a value
abbrev pub is_hoisting_by : Kind → Docs → Bool
is_hoisting_by k ds = is_field k ds && (not (is_static k ds) && (not (is_private k ds) && has_value k ds))

abbrev pub is_hoisting : Doc → Bool
is_hoisting nil = false
is_hoisting (flag b) = false
is_hoisting (number n) = false
is_hoisting (text t) = false
is_hoisting (list ds) = false
is_hoisting (node k i b e ds) = is_hoisting_by k ds

-- One of the elements is such: then private instance fields move too.
abbrev pub hoists_private : Docs → Bool
hoists_private ds = list_any is_hoisting (docs_list ds)

-- ---- what becomes of them

-- An empty field, where public fields are set by assignment: it goes where it is not private and empty fields are dropped,
-- and leaves its key where that needs a temporary.
abbrev pub empty_fate : Rules → Kind → Docs → Fate
empty_fate r k ds =
    if is_private k ds || not r.drops then fates.Stays
    else if needs_temporary r (named (codes "key") k ds) then fates.LeavesKey
    else fates.Goes

-- A field with a value moves, unless it is private, and static or beside no public one that moves. An instance field stays
-- without its value if it is private or empty fields are kept.
abbrev pub moving_fate : Rules → Bool → Kind → Docs → Fate
moving_fate r h k ds =
    if not (is_private k ds) || (not (is_static k ds) && h)
    then fates.Moves (not (is_static k ds) && (is_private k ds || not r.drops)) (not (is_private k ds) && needs_temporary r (named (codes "key") k ds))
    else fates.Stays

-- the key of an element keeps it, though it is empty and such are dropped: by itself, or for the call behind the class
abbrev pub is_kept_empty : Rules → Kind → Docs → Bool
is_kept_empty r k ds = keeps_empty r (named (codes "key") k ds) || holds_call_key r k ds

-- a field where fields are defined: an empty one goes where it is not private, such are dropped, and its key does not keep it
abbrev pub defined_fate : Rules → Kind → Docs → Fate
defined_fate r k ds =
    if r.drops && (not (has_value k ds) && (not (is_private k ds) && not (is_kept_empty r k ds)))
    then fates.Goes
    else fates.Stays

abbrev pub assigned_fate : Rules → Bool → Kind → Docs → Fate
assigned_fate r h k ds = if has_value k ds then moving_fate r h k ds else empty_fate r k ds

abbrev pub field_fate : Rules → Bool → Kind → Docs → Fate
field_fate r h k ds = if r.moves then assigned_fate r h k ds else defined_fate r k ds

-- an accessor that becomes a private field with a getter and a setter
abbrev pub is_stored : Rules → Kind → Bool
is_stored r k = r.legacy && same_kind k kind.AccessorProperty

-- Such a field moves as other private ones do.
abbrev pub stored_fate : Rules → Bool → Kind → Docs → Fate
stored_fate r h k ds =
    if r.moves && (h && (has_value k ds && not (is_static k ds))) then fates.Moves true false else fates.Stays

-- What becomes of an element of a class, where the flag says whether private instance fields move too. All but fields
-- and accessors that become such stay, and so do fields that are only declared.
abbrev pub fate_by : Rules → Bool → Kind → Docs → Fate
fate_by r h k ds =
    if is_field k ds then field_fate r h k ds
    else if is_stored r k then stored_fate r h k ds
    else fates.Stays

abbrev pub fate : Rules → Bool → Doc → Fate
fate r h nil = fates.Stays
fate r h (flag b) = fates.Stays
fate r h (number n) = fates.Stays
fate r h (text t) = fates.Stays
fate r h (list ds) = fates.Stays
fate r h (node k i b e ds) = fate_by r h k ds

abbrev pub is_moving : Fate → Bool
is_moving fates.Stays = false
is_moving fates.Goes = false
is_moving fates.LeavesKey = false
is_moving (fates.Moves stays has_temporary) = true

-- an instance field that moves into the constructor
abbrev pub moves_by : Rules → Bool → Kind → Docs → Bool
moves_by r h k ds = is_moving (fate_by r h k ds) && not (is_static k ds)

abbrev pub moves_to_constructor : Rules → Bool → Doc → Bool
moves_to_constructor r h nil = false
moves_to_constructor r h (flag b) = false
moves_to_constructor r h (number n) = false
moves_to_constructor r h (text t) = false
moves_to_constructor r h (list ds) = false
moves_to_constructor r h (node k i b e ds) = moves_by r h k ds
