-- What is told of the elements of a class: what becomes of each, and the call that it gives.
use Rattle.std.specs.Prelude.{ℕ, ◌+◌, ◌-◌, List, [], ◌∷◌, ◌++◌, Bool, true, false, not, ◌&&◌, ◌||◌, ◌==◌, if◌then◌else◌, Option, None, Some, option_map, codes}
use Rattle.oxt_declares.specs.Calls.{is_called}
use Rattle.oxt_fields.specs.Storage.{storage_text}
use Rattle.oxt_facts.specs.Told.{Accessing, Calling, Holder, Moving, Storage, Tellings, Use, accessor, called, gone, kept, leaves_key, moves, plain, this, use_view, used}
use Rattle.oxt_fields.specs.Classes.{elements_of}
use Rattle.oxt_fields.specs.Fates.{fate, hoists_private, is_moving, needs_call_temporary, needs_temporary}
use Rattle.oxt_fields.specs.Rules.{Rules}
use Rattle.oxt_fields.specs.declared.fate.Fate.{Fate}
use Rattle.oxt_fields.specs.declared.fate.Fate.TheVariants as fates
use Rattle.oxt_grammar.specs.declared.kind.Kind.TheVariants as kind
use Rattle.oxt_scoping.specs.Scoped.{Scoped}
use Rattle.oxt_told.specs.Metadata.{element_described}
use Rattle.oxt_told.specs.Symbols.{number_in}
use Rattle.oxt_told.specs.Tags.{call_part, callee, key_part, object_use, tag_for}
use Rattle.oxt_told.specs.declared.calls.Shared.{Shared}
use Rattle.oxt_told.specs.declared.lowering.Lowering.{Lowering}
use Rattle.oxt_tree.specs.Doc.{Doc, nil, flag, number, text, list, node, Docs, no_docs, doc}
use Rattle.oxt_tree.specs.Fields.{field_of, is_kind, is_set, is_text}

-- ---- what the elements of a class have in common

-- the name by which their calls call it, the name of the object on which its static accessors keep their values, whether private
-- instance fields move, and whether the class's alias is kept in front of the keys that no later key takes
pub record Common : Type 0 where
  pub callee : Option Use
  pub object : Option Use
  pub hoists : Bool
  pub has_front : Bool

-- as the program has it
abbrev pub common_view : Shared → Common
common_view c =
    record {
      callee = option_map use_view c.callee;
      object = option_map use_view c.object;
      hoists = c.hoists;
      has_front = c.has_front;
    }

-- of a class of that number
abbrev pub common_of : Scoped → Lowering → ℕ → Doc → Common
common_of s w i d =
    record {
      callee = callee s w i d;
      object = object_use s w i d;
      hoists = hoists_private (elements_of d);
      has_front = w.has_front;
    }

-- ---- elements

-- the key of an element
abbrev pub key_in : Doc → Doc
key_in d = field_of (codes "key") d

-- an element of the class itself
abbrev pub is_static : Doc → Bool
is_static d = is_set (field_of (codes "static") d)

-- a field that is only declared
abbrev pub is_declared : Doc → Bool
is_declared d = is_set (field_of (codes "declare") d)

-- ---- keys that wait for a later key, which takes them

-- a method that is no constructor and has a body
abbrev pub is_method : Doc → Bool
is_method d =
    is_kind kind.MethodDefinition d
    && (not (is_text (codes "constructor") (field_of (codes "kind") d))
    && is_kind kind.FunctionExpression (field_of (codes "value") d))

-- the key of an element is an expression
abbrev pub has_expression_key : Doc → Bool
has_expression_key d =
    not (is_kind kind.IdentifierName (key_in d)) && not (is_kind kind.PrivateIdentifier (key_in d))

-- A method or an accessor takes the keys that wait in front of its own, which is an expression.
abbrev pub takes_keys : Doc → Bool
takes_keys d = (is_kind kind.AccessorProperty d || is_method d) && has_expression_key d

-- how many of the elements do
abbrev pub takers : Docs → ℕ
takers no_docs = 0
takers (doc d ds) = if takes_keys d then 1 + takers ds else takers ds

-- as many, but for that element
abbrev pub takers_behind : Doc → ℕ → ℕ
takers_behind d n = if takes_keys d then n - 1 else n

-- the key of a field with that fate waits
abbrev pub is_waiting : Fate → Bool
is_waiting fates.Stays = false
is_waiting fates.Goes = false
is_waiting fates.LeavesKey = true
is_waiting (fates.Moves stays has_temporary) = has_temporary

-- keys wait behind an element, in front of which they wait or not
abbrev pub waits_behind : Rules → Bool → Bool → Doc → Bool
waits_behind r h waiting d = not (takes_keys d) && (waiting || is_waiting (fate r h d))

-- the class's alias is kept in front of keys that wait where as many elements are left that take such
abbrev pub is_last : Bool → ℕ → Bool
is_last front n = front && n == 0

-- a key waits, and is one of the last
abbrev pub waits_last : Bool → Bool → Bool
waits_last waits last = waits && last

-- ---- the call that an element gives

-- the call by that name, whose key has a temporary of its own or not
abbrev pub calling_of : Rules → Use → Bool → Doc → Calling
calling_of r u has_temporary d =
    record {
      class = u;
      is_static = is_static d;
      is_private = is_kind kind.PrivateIdentifier (key_in d);
      is_field = is_kind kind.PropertyDefinition d;
      tag = tag_for call_part has_temporary (number_in (key_in d));
      metadata = element_described r d;
    }

-- The call that an element gives, if its class has a name by which calls call it.
abbrev pub call_of : Rules → Option Use → Bool → Doc → Option Calling
call_of r None has_temporary d = None
call_of r (Some u) has_temporary d = if is_called d then Some (calling_of r u has_temporary d) else None

-- the key of such a call needs a temporary
abbrev pub needs_tag : Rules → Doc → Bool
needs_tag r d = needs_call_temporary r (key_in d)

-- the same of a method, in front of which keys wait or not: it has one too where it takes such
abbrev pub method_needs_tag : Rules → Bool → Doc → Bool
method_needs_tag r waiting d = (waiting && takes_keys d) || needs_tag r d

-- the same of an accessor, which has one too where its getter and its setter share one
abbrev pub accessor_needs_tag : Rules → Bool → Doc → Bool
accessor_needs_tag r waiting d = needs_temporary r (key_in d) || method_needs_tag r waiting d

-- the same of a field that moves, which may stay
abbrev pub staying_needs_tag : Rules → Bool → Doc → Bool
staying_needs_tag r stays d = stays && needs_tag r d

-- an element of that number that stays or not, and that gives that call, if it gives one
abbrev pub called_told : ℕ → Bool → Option Calling → Tellings
called_told i stays None = []
called_told i stays (Some c) = (i, called (record { call = c; stays = stays })) ∷ []

-- ---- fields

-- a field that moves: whether it stays without its value, whether the value of its key is kept, its call, and whether its key
-- is read behind the class's alias
abbrev pub moving_of : Bool → Bool → Option Calling → Bool → Doc → Moving
moving_of stays has_temporary call last d =
    record {
      is_static = is_static d;
      stays = stays;
      tag = tag_for key_part has_temporary (number_in (key_in d));
      call = call;
      is_last = last;
    }

-- a field of that number that goes, which may give that call
abbrev pub gone_told : ℕ → Option Calling → Tellings
gone_told i None = (i, gone) ∷ []
gone_told i (Some c) = called_told i false (Some c)

-- A field of that number with that fate. `last` says that the class's alias is kept in front of its key, if that waits.
abbrev pub fate_told : Rules → Option Use → Bool → Fate → ℕ → Doc → Tellings
fate_told r u last fates.Stays i d = called_told i true (call_of r u (needs_tag r d) d)
fate_told r u last fates.Goes i d = gone_told i (call_of r u false d)
fate_told r u last fates.LeavesKey i d = (i, leaves_key last) ∷ []
fate_told r u last (fates.Moves stays has_temporary) i d =
    (i, moves (moving_of stays has_temporary (call_of r u (staying_needs_tag r stays d) d) (waits_last has_temporary last) d)) ∷ []

-- a field, which may be only declared
abbrev pub field_told : Rules → Common → Bool → ℕ → Doc → Tellings
field_told r o last i d =
    if is_declared d then called_told i false (call_of r o.callee (needs_tag r d) d)
    else fate_told r o.callee last (fate r o.hoists d) i d

-- ---- accessors

-- the name of the field in which an accessor keeps its value, by the tag of the temporary of its key
abbrev pub storage_by : Option (List ℕ) → Doc → Storage
storage_by None d = plain (storage_text d)
storage_by (Some t) d = kept t

abbrev pub storage_of : Rules → Doc → Storage
storage_of r d = storage_by (tag_for key_part (needs_temporary r (key_in d)) (number_in (key_in d))) d

-- the object on which it keeps its value
abbrev pub holder_by : Option Use → Holder
holder_by None = this
holder_by (Some u) = used u

abbrev pub holder_of : Option Use → Doc → Holder
holder_of u d = if is_static d then holder_by u else this

-- an accessor of that number, which may give that call
abbrev pub accessing_of : Rules → Common → Option Calling → ℕ → Doc → Accessing
accessing_of r o call i d =
    record {
      is_static = is_static d;
      storage = storage_of r d;
      object = holder_of o.object d;
      value_group = i;
      moves = is_moving (fate r o.hoists d);
      call = call;
    }

-- an accessor of that number, in front of which keys wait or not, where accessors are lowered
abbrev pub accessor_told : Rules → Common → Bool → ℕ → Doc → Tellings
accessor_told r o waiting i d =
    if r.legacy then (i, accessor (accessing_of r o (call_of r o.callee (accessor_needs_tag r waiting d) d) i d)) ∷ [] else []

-- ---- all of them

-- an element of that number, in front of which keys wait or not; `last` says that the class's alias is kept in front of its key,
-- if that waits
abbrev pub element_by : Rules → Common → Bool → Bool → ℕ → Doc → Tellings
element_by r o waiting last i d =
    if is_kind kind.PropertyDefinition d then field_told r o last i d
    else if is_kind kind.MethodDefinition d then called_told i true (call_of r o.callee (method_needs_tag r waiting d) d)
    else if is_kind kind.AccessorProperty d then accessor_told r o waiting i d
    else []

abbrev pub element_told : Rules → Common → Bool → Bool → Doc → Tellings
element_told r o waiting last nil = []
element_told r o waiting last (flag b) = []
element_told r o waiting last (number n) = []
element_told r o waiting last (text t) = []
element_told r o waiting last (list ds) = []
element_told r o waiting last (node k i b e ds) = element_by r o waiting last i (node k i b e ds)

-- The elements, in front of which keys wait or not. The alias is kept in front of the keys that no later key takes.
abbrev pub elements_told : Rules → Common → Bool → Docs → Tellings
elements_told r o waiting no_docs = []
elements_told r o waiting (doc d ds) =
    element_told r o waiting (is_last o.has_front (takers ds)) d ++ elements_told r o (waits_behind r o.hoists waiting d) ds
