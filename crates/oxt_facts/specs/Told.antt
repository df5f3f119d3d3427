-- What is told of the nodes of a source that are read otherwise than by the rules of their kinds: of the blocks of its
-- enums, of their members, of the bare names that mean members, of the expressions that are inlined, of what goes (blocks of
-- enums that are dropped, imports, exports, specifiers and fields), of a program that is made strict, of the specifiers of modules
-- that are rewritten, of classes and fields whose values move, of accessors, and of classes whose decorators are called.
use Rattle.std.specs.Prelude.{ℕ, List, map, Bool, nat_eq, Option, None, option_map}
use Rattle.std.specs.Map.{lookup}
use Rattle.oxt_facts.specs.declared.told.MemberValue.{MemberValue}
use Rattle.oxt_facts.specs.declared.told.MemberValue.TheVariants as member_value
use Rattle.oxt_facts.specs.declared.told.Told.{Told}
use Rattle.oxt_facts.specs.declared.told.Told.TheVariants as told
use Rattle.oxt_facts.specs.declared.told.ToldAccessor.{ToldAccessor}
use Rattle.oxt_facts.specs.declared.told.ToldBlock.{ToldBlock}
use Rattle.oxt_facts.specs.declared.told.ToldCall.{ToldCall}
use Rattle.oxt_facts.specs.declared.told.ToldClass.{ToldClass}
use Rattle.oxt_facts.specs.declared.told.ToldDecorated.{ToldDecorated}
use Rattle.oxt_facts.specs.declared.told.ToldElement.{ToldElement}
use Rattle.oxt_facts.specs.declared.told.ToldField.{ToldField}
use Rattle.oxt_facts.specs.declared.told.ToldMember.{ToldMember}
use Rattle.oxt_facts.specs.declared.told.ToldMetadata.{ToldMetadata}
use Rattle.oxt_facts.specs.declared.told.ToldName.{ToldName}
use Rattle.oxt_facts.specs.declared.told.ToldNamespace.{ToldNamespace}
use Rattle.oxt_facts.specs.declared.told.ToldObject.{ToldObject}
use Rattle.oxt_facts.specs.declared.told.ToldObject.TheVariants as told_object
use Rattle.oxt_facts.specs.declared.told.ToldStorage.{ToldStorage}
use Rattle.oxt_facts.specs.declared.told.ToldStorage.TheVariants as told_storage
use Rattle.oxt_facts.specs.declared.told.ToldType.{ToldType}
use Rattle.oxt_facts.specs.declared.told.ToldType.TheVariants as told_type
use Rattle.oxt_facts.specs.declared.told.ToldUse.{ToldUse}
use Rattle.oxt_facts.specs.declared.told.ToldUse.TheVariants as told_use
use Rattle.oxt_names.specs.Constant.{Constant, constant_view}
use Rattle.oxt_names.specs.Names.{name_bytes}
use Rattle.std.specs.Prelude.{Vec}
use Rattle.std.specs.declared.alloc.Global.{Global}

-- the value of a member: a constant, one more than the member of that name, or what is written
pub data Value : Type 0 where
  constant : Constant → Value
  following : List ℕ → Value
  written : Value

-- a block of an enum: its name, the group of that, the number of its node, by which the parameter of its function goes,
-- whether nothing of its name emits code before it, whether the program's own scope declares it, and whether its call
-- has no effects of its own
pub record Block : Type 0 where
  pub name : List ℕ
  pub group : Option ℕ
  pub node : ℕ
  pub is_first : Bool
  pub is_top : Bool
  pub is_pure : Bool

-- a member: the name of its enum, the number of its block, its own name, its value, and whether it can be looked up by
-- its value
pub record Member : Type 0 where
  pub owner : List ℕ
  pub block : ℕ
  pub name : List ℕ
  pub value : Value
  pub is_reversed : Bool

-- a block of a namespace that becomes a function: its name, the group of that, the tag of the function's parameter, that of the
-- block that exports it, if one does, and whether nothing of its name emits code before it
pub record Namespace : Type 0 where
  pub name : List ℕ
  pub group : Option ℕ
  pub tag : List ℕ
  pub base : Option (List ℕ)
  pub is_first : Bool

-- names with their groups
abbrev pub Names : Type 0
Names = List (List ℕ × Option ℕ)

-- the body of a class that has more in it than is written there: whether its constructor puts more on the object or empty fields
-- stand in front of its own, the names of these fields, the parameters that are put on the object, how many of the constructor's
-- statements stand before what is put, whether the source has a constructor with a body, whether the class extends another, the
-- tag by which the class is kept in front of its static parts, if it is, and whether its last static part calls the decorators of
-- its elements
pub record Gaining : Type 0 where
  pub gains : Bool
  pub fields : List (List ℕ)
  pub properties : Names
  pub place : ℕ
  pub has_constructor : Bool
  pub is_derived : Bool
  pub alias : Option (List ℕ)
  pub has_calls : Bool

-- by what name something is called: a name of the source with its group, or a made one by its tag
pub data Use : Type 0 where
  name_use : List ℕ → Option ℕ → Use
  made_use : List ℕ → Use

-- a type that metadata writes: a global name, `void 0`, or a name of the source, by the number of its first name, that name, and
-- those behind it
pub data Typed : Type 0 where
  global_type : List ℕ → Typed
  undefined_type : Typed
  named_type : ℕ → List ℕ → List (List ℕ) → Typed

-- the metadata of a class or of an element of it: the type of the element itself, those of the parameters, and that of what is
-- returned, each if it is written
pub record Described : Type 0 where
  pub design : Option Typed
  pub parameters : Option (List Typed)
  pub returned : Option Typed

-- none
abbrev pub undescribed : Described
undescribed = record { design = None; parameters = None; returned = None }

-- the call that an element of a class gives: the name of the class, whether the element is one of the class itself, whether its name
-- is private, whether it is a field, the tag by which the value of its key is kept, if it is, and the metadata in the call
pub record Calling : Type 0 where
  pub class : Use
  pub is_static : Bool
  pub is_private : Bool
  pub is_field : Bool
  pub tag : Option (List ℕ)
  pub metadata : Described

-- an element of a class that gives a call: the call, and whether the element itself stays
pub record Element : Type 0 where
  pub call : Calling
  pub stays : Bool

-- a field whose value is put elsewhere: whether that is on the class, whether the field itself stays without its value, the tag by
-- which the value of its key is kept, if it is, the call that it gives, if it gives one, and whether its key is read behind the one
-- in which the class is kept
pub record Moving : Type 0 where
  pub is_static : Bool
  pub stays : Bool
  pub tag : Option (List ℕ)
  pub call : Option Calling
  pub is_last : Bool

-- the name of the field in which an accessor keeps its value: made from that text, or from the name of the temporary with that tag,
-- which keeps the value of the accessor's key
pub data Storage : Type 0 where
  plain : List ℕ → Storage
  kept : List ℕ → Storage

-- the object on which an accessor keeps its value
pub data Holder : Type 0 where
  this : Holder
  used : Use → Holder

-- an accessor that becomes a field, a getter and a setter: whether it is one of the class itself, the name of its field, the object that
-- has the field, the group of the setter's parameter, whether the value of its field is put in the constructor, and the call that
-- it gives, if it gives one
pub record Accessing : Type 0 where
  pub is_static : Bool
  pub storage : Storage
  pub object : Holder
  pub value_group : ℕ
  pub moves : Bool
  pub call : Option Calling

-- the declaration of a class that is decorated, behind which the decorators of its elements are called, or that takes a made name:
-- whether it is decorated itself, the group of the name in it, the name by which it is called, unless it has none, the tag of the
-- name in it, where the source has none there, the tag by which it is kept, if it is, whether it is kept where it is declared,
-- whether the decorators of its elements are called behind it, and the metadata in its own call
pub record Decorating : Type 0 where
  pub is_decorated : Bool
  pub number : ℕ
  pub name : Option Use
  pub inner : Option (List ℕ)
  pub alias : Option (List ℕ)
  pub keeps_alias : Bool
  pub has_calls : Bool
  pub metadata : Described

-- what is told of a node: of a bare name, the name and the group of the enum whose member it means; of an expression that is
-- inlined its constant, and of a specifier of a module that is rewritten its text; `gone`, that the node does nothing;
-- `listless`, that it is an import that loses its whole list and stays for what its module does; `strict`, that it is a program
-- before whose directives the one stands by which all its code is strict; `quasi`, the texts of a piece of a template; `export`,
-- of an export in a namespace the tag of the block in which it stands, and the names that are put on the block's object behind
-- it; `stored`, of a declarator that such an export holds, the tag and the name under which its value is put; `gains`, of the body
-- of a class, what it has more than is written; `moves`, of a field, where its value is put; `leaves_key`, that a field goes, but for
-- the effects of its key, and whether that is read behind the one in which the class is kept; `called`, of an element of a class, the
-- call that it gives; `accessor`, of an accessor, what it becomes; `decorated`, of the declaration of a class, what stands around and
-- behind it; `titled`, of the nameless expression of a class, the tag of the name that it takes; `default_class`, of a default export,
-- whether the class in it is decorated itself, and the name by which it is called; `applied`, of a decorator that is applied, the place of
-- the parameter that it decorates, if it decorates one; `alias`, of a name, the tag of the made one as which it is read; `inner`, of a
-- name, the group that it means
pub data Telling : Type 0 where
  block : Block → Telling
  member : Member → Telling
  bare : List ℕ → Option ℕ → Telling
  inlined : Constant → Telling
  gone : Telling
  listless : Telling
  strict : Telling
  quasi : Option (List ℕ) → Option (List ℕ) → Telling
  space : Namespace → Telling
  export : List ℕ → Names → Telling
  stored : List ℕ → List ℕ → Telling
  gains : Gaining → Telling
  moves : Moving → Telling
  leaves_key : Bool → Telling
  called : Element → Telling
  accessor : Accessing → Telling
  decorated : Decorating → Telling
  titled : List ℕ → Telling
  default_class : Bool → Use → Telling
  applied : Option ℕ → Telling
  alias : List ℕ → Telling
  inner : ℕ → Telling

-- what is told of nodes, by their numbers
abbrev pub Tellings : Type 0
Tellings = List (ℕ × Telling)

abbrev pub told_of : Tellings → ℕ → Option Telling
told_of ts i = lookup (nat_eq i) ts

-- ---- as contracts see what the program has

abbrev pub value_view : MemberValue → Value
value_view (member_value.Constant c) = constant (constant_view c)
value_view (member_value.Following name) = following (name_bytes name)
value_view member_value.Written = written

abbrev pub block_view : ToldBlock → Block
block_view b = record { name = name_bytes b.name; group = b.group; node = b.node; is_first = b.is_first; is_top = b.is_top; is_pure = b.is_pure }

abbrev pub member_view : ToldMember → Member
member_view m = record { owner = name_bytes m.owner; block = m.block; name = name_bytes m.name; value = value_view m.value; is_reversed = m.is_reversed }

abbrev pub namespace_view : ToldNamespace → Namespace
namespace_view s = record { name = name_bytes s.name; group = s.group; tag = name_bytes s.tag; base = option_map name_bytes s.base; is_first = s.is_first }

abbrev pub names_view : List ToldName → Names
names_view ns = map (λ n. (name_bytes n.name, n.group)) ns

abbrev pub gaining_view : ToldClass → Gaining
gaining_view c = record { gains = c.gains; fields = map name_bytes c.fields.items; properties = names_view c.properties.items; place = c.place; has_constructor = c.has_constructor; is_derived = c.is_derived; alias = option_map name_bytes c.alias; has_calls = c.has_calls }

abbrev pub use_view : ToldUse → Use
use_view (told_use.Name n) = name_use (name_bytes n.name) n.group
use_view (told_use.Made tag) = made_use (name_bytes tag)

abbrev pub type_view : ToldType → Typed
type_view (told_type.Global name) = global_type (name_bytes name)
type_view told_type.Undefined = undefined_type
type_view (told_type.Reference r) = named_type r.root.0 (name_bytes r.name) (map name_bytes r.path.items)

abbrev pub types_view : Vec ToldType Global → List Typed
types_view ts = map type_view ts.items

abbrev pub metadata_view : ToldMetadata → Described
metadata_view m = record { design = option_map type_view m.design; parameters = option_map types_view m.parameters; returned = option_map type_view m.returned }

abbrev pub calling_view : ToldCall → Calling
calling_view c = record { class = use_view c.class; is_static = c.is_static; is_private = c.is_private; is_field = c.is_field; tag = option_map name_bytes c.tag; metadata = metadata_view c.metadata }

abbrev pub element_view : ToldElement → Element
element_view e = record { call = calling_view e.call; stays = e.stays }

abbrev pub moving_view : ToldField → Moving
moving_view f = record { is_static = f.is_static; stays = f.stays; tag = option_map name_bytes f.tag; call = option_map calling_view f.call; is_last = f.is_last }

abbrev pub storage_view : ToldStorage → Storage
storage_view (told_storage.Plain text) = plain (name_bytes text)
storage_view (told_storage.Kept tag) = kept (name_bytes tag)

abbrev pub holder_view : ToldObject → Holder
holder_view told_object.This = this
holder_view (told_object.Use u) = used (use_view u)

abbrev pub accessing_view : ToldAccessor → Accessing
accessing_view a = record { is_static = a.is_static; storage = storage_view a.storage; object = holder_view a.object; value_group = a.value_group; moves = a.moves; call = option_map calling_view a.call }

abbrev pub decorating_view : ToldDecorated → Decorating
decorating_view d = record { is_decorated = d.is_decorated; number = d.number; name = option_map use_view d.name; inner = option_map name_bytes d.inner; alias = option_map name_bytes d.alias; keeps_alias = d.keeps_alias; has_calls = d.has_calls; metadata = metadata_view d.metadata }

abbrev pub told_view : Told → Telling
told_view (told.Block b) = block (block_view b)
told_view (told.Member m) = member (member_view m)
told_view (told.Bare name group) = bare (name_bytes name) group
told_view (told.Inlined c) = inlined (constant_view c)
told_view told.Gone = gone
told_view told.Listless = listless
told_view told.Strict = strict
told_view (told.Quasi q) = quasi (option_map name_bytes q.raw) (option_map name_bytes q.cooked)
told_view (told.Namespace s) = space (namespace_view s)
told_view (told.Export e) = export (name_bytes e.tag) (names_view e.names.items)
told_view (told.Stored s) = stored (name_bytes s.tag) (name_bytes s.name)
told_view (told.Gains c) = gains (gaining_view c)
told_view (told.Moves f) = moves (moving_view f)
told_view (told.LeavesKey is_last) = leaves_key is_last
told_view (told.Called e) = called (element_view e)
told_view (told.Accessor a) = accessor (accessing_view a)
told_view (told.Decorated d) = decorated (decorating_view d)
told_view (told.Named tag) = titled (name_bytes tag)
told_view (told.DefaultClass is_decorated u) = default_class is_decorated (use_view u)
told_view (told.Applied place) = applied place
told_view (told.Alias tag) = alias (name_bytes tag)
told_view (told.Inner group) = inner group

abbrev pub told_views : List (ℕ × Told) → Tellings
told_views es = map (λ e. (e.0, told_view e.1)) es
