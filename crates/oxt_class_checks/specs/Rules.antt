-- What is wrong with the place of an element of a class.
use Rattle.std.specs.Prelude.{Bool, true, false, not, ◌&&◌, ◌||◌, if◌then◌else◌, Option, None, Some, codes}
use Rattle.std.specs.List.{list_any}
use Rattle.oxt_class_checks.specs.Calls.{calls_once}
use Rattle.oxt_class_checks.specs.Class.{has_decorators}
use Rattle.oxt_class_checks.specs.Nodes.{some_node}
use Rattle.oxt_class_checks.specs.declared.class.ClassFacts.{ClassFacts}
use Rattle.oxt_class_checks.specs.declared.misplaced.ClassFault.{ClassFault}
use Rattle.oxt_class_checks.specs.declared.misplaced.ClassFault.TheVariants as fault
use Rattle.oxt_fields.specs.Classes.{is_constructor, is_property, parameters_of}
use Rattle.oxt_fields.specs.Fates.{fate_by, holds_call_key, is_field, is_moving, is_static, is_steady_kind}
use Rattle.oxt_fields.specs.Rules.{Rules}
use Rattle.oxt_fields.specs.declared.fate.Fate.{Fate}
use Rattle.oxt_fields.specs.declared.fate.Fate.TheVariants as fates
use Rattle.oxt_grammar.specs.declared.kind.Kind.{Kind}
use Rattle.oxt_tree.specs.Doc.{Doc, nil, flag, number, text, list, node, Docs}
use Rattle.oxt_tree.specs.Fields.{docs_list, named}

-- ---- constructors

abbrev pub has_property : Docs → Bool
has_property ps = list_any is_property (docs_list ps)

-- fields move into a constructor, or parameters of it are properties
abbrev pub takes_on : ClassFacts → Kind → Docs → Bool
takes_on c k ds = c.has_moving || has_property (parameters_of (some_node k ds))

-- The constructor of a derived class takes on properties or fields, which stand behind the call of `super`; but it does
-- not call `super` once in a statement by itself.
abbrev pub is_super_fault : Rules → ClassFacts → Kind → Docs → Bool
is_super_fault r c k ds =
    c.is_derived
    && (is_constructor (some_node k ds) && (takes_on c k ds && not (calls_once r.legacy (some_node k ds))))

-- ---- fields

-- a key that is neither a name nor a literal
abbrev pub is_computed : Doc → Bool
is_computed nil = false
is_computed (flag b) = false
is_computed (number n) = false
is_computed (text t) = false
is_computed (list ds) = false
is_computed (node k i b e ds) = not (is_steady_kind k)

abbrev pub has_computed_key : Kind → Docs → Bool
has_computed_key k ds = is_computed (named (codes "key") k ds)

-- A field has such a key, where public fields are set by assignment, and empty fields are kept or the class has an
-- element with decorators that are not lowered.
abbrev pub is_key_fault : Rules → ClassFacts → Kind → Docs → Bool
is_key_fault r c k ds =
    r.moves && (is_field k ds && (has_computed_key k ds && (not r.drops || (not r.legacy && c.has_decorated))))

-- does not stay as it is
abbrev pub is_changed : Fate → Bool
is_changed fates.Stays = false
is_changed f = true

-- A field with decorators does not stay as it is, or one moves beside an `accessor` of instances with a value.
abbrev pub is_plain_fault : Rules → ClassFacts → Kind → Docs → Bool
is_plain_fault r c k ds =
    (has_decorators k ds && is_changed (fate_by r c.hoists k ds))
    || (c.has_assigned && is_moving (fate_by r c.hoists k ds))

-- the key is computed apart from the field
abbrev pub waits : Fate → Bool
waits fates.Stays = false
waits fates.Goes = false
waits fates.LeavesKey = true
waits (fates.Moves stays has_temporary) = has_temporary

-- The field of a class declaration is dropped or moves, where its key is to be kept for the call of its decorators.
abbrev pub loses_key : Rules → ClassFacts → Kind → Docs → Bool
loses_key r c k ds =
    c.is_declaration && (r.moves && (r.drops && holds_call_key r k ds))

-- A field with that fate goes into a static block, or its key waits, or is lost.
abbrev pub is_displaced : Rules → ClassFacts → Fate → Kind → Docs → Bool
is_displaced r c f k ds = (is_moving f && is_static k ds) || (waits f || loses_key r c k ds)

-- Where decorators are lowered: a field with decorators does so.
abbrev pub is_called_fault : Rules → ClassFacts → Kind → Docs → Bool
is_called_fault r c k ds = is_field k ds && (has_decorators k ds && is_displaced r c (fate_by r c.hoists k ds) k ds)

abbrev pub is_field_fault : Rules → ClassFacts → Kind → Docs → Bool
is_field_fault r c k ds = if r.legacy then is_called_fault r c k ds else is_plain_fault r c k ds

-- ---- the first of these

-- the flag says whether the element is refused as an accessor
abbrev pub fault_at : Rules → Bool → ClassFacts → Kind → Docs → Option ClassFault
fault_at r refused c k ds =
    if is_super_fault r c k ds then Some fault.Super
    else if is_key_fault r c k ds then Some fault.Key
    else if is_field_fault r c k ds then Some fault.Field
    else if refused then Some fault.Accessor
    else None
