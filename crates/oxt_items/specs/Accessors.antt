-- How accessors are read that become a field, a getter and a setter.
use Rattle.std.specs.Prelude.{ℕ, List, [], ◌∷◌, ◌++◌, Bool, true, false, if◌then◌else◌, Option, None, Some, codes}
use Rattle.oxt_facts.specs.Entry.{Entry, binding_text, detailed, lone, owned, spelled}
use Rattle.oxt_facts.specs.Facts.{Known}
use Rattle.oxt_facts.specs.Told.{Accessing, Holder, Storage, plain, kept, this, used}
use Rattle.oxt_facts.specs.declared.item.Binding.TheVariants as binding
use Rattle.oxt_facts.specs.declared.item.ItemKind.TheVariants as item
use Rattle.oxt_forms.specs.Details.{start}
use Rattle.oxt_grammar.specs.declared.kind.Kind.TheVariants as kind
use Rattle.oxt_tree.specs.Doc.{flag, nil, text}
use Rattle.oxt_items.specs.Calls.{element_text, given_call, kept_key, kept_word, tag_of, used_word}
use Rattle.oxt_items.specs.Enums.{use_word}
use Rattle.oxt_items.specs.Node.{OneField}
use Rattle.oxt_items.specs.declared.rule.Rule.{Rule}
use Rattle.oxt_items.specs.declared.way.Way.{Way}
use Rattle.oxt_items.specs.declared.way.Way.TheVariants as way

-- the name of its field
abbrev pub storage_word : Storage → List Entry
storage_word (plain x) = spelled item.Private (text x)
storage_word (kept t) = spelled item.PrivateMade (text t)

-- the object that has the field
abbrev pub holder_word : Holder → List Entry
holder_word this = lone item.This
holder_word (used u) = used_word u

-- the field, with that value
abbrev pub storage_field : Bool → Storage → List Entry → List Entry
storage_field s x value =
    detailed item.Field nil (flag s ∷ flag false ∷ []) ++ (storage_word x ++ (value ++ lone item.Define))

-- the field of an instance, whose value may be put in the constructor
abbrev pub instance_storage : Bool → Storage → OneField → List Entry
instance_storage m x c =
    if m then storage_field false x (lone item.Nil) else storage_field false x (c (codes "value") way.Whole)

-- that put
abbrev pub storage_put : Storage → OneField → List Entry
storage_put x c =
    lone item.This
    ++ (storage_word x ++ (c (codes "value") way.Whole ++ (lone item.Put ++ lone item.Eval)))

-- the key of a getter, which a made name may hold
abbrev pub plain_key : Option (List ℕ) → OneField → List Entry
plain_key None c = c (codes "key") way.Keyed
plain_key (Some t) c = kept_key t c

-- the key of the getter, whose value the temporary of the storage holds, and that of the call
abbrev pub getter_key : Storage → Option (List ℕ) → OneField → List Entry
getter_key (plain x) o c = plain_key o c
getter_key (kept t) o c =
    c (codes "key") way.Whole ++ (spelled item.Keep (text t) ++ (kept_word o ++ lone item.Key))

-- the key of the setter: what that temporary holds, or the key again
abbrev pub setter_key : Storage → OneField → List Entry
setter_key (plain x) c = c (codes "key") way.Keyed
setter_key (kept t) c = spelled item.Made (text t) ++ lone item.Key

-- the text of either key
abbrev pub key_text_of : Storage → Option (List ℕ) → OneField → List Entry
key_text_of (plain x) o c = element_text o c
key_text_of (kept t) o c = []

-- the start of a method of that kind
abbrev pub method_start : List ℕ → Bool → List Entry
method_start x s = start kind.MethodDefinition (text x ∷ flag s ∷ [])

-- the start of its function
abbrev pub function_start : List Entry
function_start = start kind.FunctionExpression (flag false ∷ flag false ∷ []) ++ lone item.Nil

-- the function of the getter, which returns what the field holds
abbrev pub getter_function : Accessing → List Entry
getter_function a =
    function_start
    ++ (lone item.Nil
    ++ (start kind.ReturnStatement []
    ++ (start kind.PrivateFieldExpression (flag false ∷ [])
    ++ (holder_word a.object
    ++ (storage_word a.storage ++ (lone item.Close ++ (lone item.Close ++ lone item.Close)))))))

-- the parameter of the setter
abbrev pub value_parameter : ℕ → List Entry
value_parameter g =
    start kind.FormalParameter []
    ++ (owned (Some g) item.Bind (text (codes "value")) (text (binding_text binding.Parameter) ∷ flag false ∷ [])
    ++ (lone item.Nil ++ lone item.Close))

-- the function of the setter, which puts what it is given
abbrev pub setter_function : Accessing → List Entry
setter_function a =
    function_start
    ++ (value_parameter a.value_group
    ++ (lone item.Nil
    ++ (holder_word a.object
    ++ (storage_word a.storage
    ++ (use_word (codes "value") (Some a.value_group) ++ (lone item.Put ++ (lone item.Eval ++ lone item.Close)))))))

abbrev pub getter_word : Accessing → OneField → List Entry
getter_word a c =
    method_start (codes "get") a.is_static
    ++ (key_text_of a.storage (tag_of a.call) c ++ (getter_function a ++ lone item.Close))

abbrev pub setter_word : Accessing → OneField → List Entry
setter_word a c =
    method_start (codes "set") a.is_static
    ++ (key_text_of a.storage None c ++ (setter_function a ++ lone item.Close))

-- An accessor is the keys of its getter and setter, its field, the put of the field's value where that belongs, the two methods, and
-- the call that it gives.
abbrev pub accessor_word : Known → Accessing → Way → Rule → OneField → List Entry
accessor_word f a way.Keys r c = getter_key a.storage (tag_of a.call) c ++ setter_key a.storage c
accessor_word f a way.Statics r c =
    if a.is_static then storage_field true a.storage (c (codes "value") way.Whole) else []
accessor_word f a way.Fields r c = if a.is_static then [] else instance_storage a.moves a.storage c
accessor_word f a way.Puts r c = if a.moves then storage_put a.storage c else []
accessor_word f a way.Methods r c = getter_word a c ++ setter_word a c
accessor_word f a way.Calls r c = given_call f a.call r c
accessor_word f a w r c = []
