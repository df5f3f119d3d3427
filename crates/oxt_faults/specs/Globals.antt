-- The global names that metadata has of its own, where they would mean a declaration.
use Rattle.std.specs.Prelude.{Bool, false, not, ◌||◌, if◌then◌else◌, Option, None, Some}
use Rattle.std.specs.Option.{option_or}
use Rattle.oxt_declares.specs.Calls.{parameters_of}
use Rattle.oxt_faults.specs.Captured.{emits_at}
use Rattle.oxt_faults.specs.declared.globals.Globals.{Globals}
use Rattle.oxt_fields.specs.Classes.{constructor_in, elements_of}
use Rattle.oxt_fields.specs.Rules.{Rules}
use Rattle.oxt_grammar.specs.declared.kind.Kind.TheVariants as kind
use Rattle.oxt_metadata.specs.Typings.{Source, design_of, rest_of, returned_by, typed, typing_in}
use Rattle.oxt_names.specs.declared.ids.ScopeId.{ScopeId}
use Rattle.oxt_options.specs.Metadata.{text_of_global}
use Rattle.oxt_options.specs.declared.metadata.GlobalName.{GlobalName}
use Rattle.oxt_options.specs.declared.metadata.GlobalName.TheVariants as global_name
use Rattle.oxt_options.specs.declared.metadata.MetadataType.{MetadataType}
use Rattle.oxt_options.specs.declared.metadata.MetadataType.TheVariants as metadata_type
use Rattle.oxt_scoping.specs.Scoped.{Scoped}
use Rattle.oxt_tree.specs.Doc.{Doc, Docs, no_docs, doc}
use Rattle.oxt_tree.specs.Fields.{is_kind}

-- ---- what is around

-- a declaration has the name
abbrev pub has_global : Globals → GlobalName → Bool
has_global t global_name.Object = t.object
has_global t global_name.Function = t.function
has_global t global_name.Array = t.array
has_global t global_name.Boolean = t.boolean
has_global t global_name.String = t.string
has_global t global_name.Number = t.number
has_global t global_name.BigInt = t.bigint
has_global t global_name.Symbol = t.symbol
has_global t global_name.Promise = t.promise

-- no declaration has one
abbrev pub no_globals : Globals
no_globals =
    record {
      object = false;
      function = false;
      array = false;
      boolean = false;
      string = false;
      number = false;
      bigint = false;
      symbol = false;
      promise = false;
    }

-- a declaration has the name, or one in the scope which emits code
abbrev pub has_global_in : Scoped → Globals → ScopeId → GlobalName → Bool
has_global_in s t i g = has_global t g || emits_at s (text_of_global g) i

-- with those that declarations in a scope have
abbrev pub with_globals : Scoped → Globals → ScopeId → Globals
with_globals s t i =
    record {
      object = has_global_in s t i global_name.Object;
      function = has_global_in s t i global_name.Function;
      array = has_global_in s t i global_name.Array;
      boolean = has_global_in s t i global_name.Boolean;
      string = has_global_in s t i global_name.String;
      number = has_global_in s t i global_name.Number;
      bigint = has_global_in s t i global_name.BigInt;
      symbol = has_global_in s t i global_name.Symbol;
      promise = has_global_in s t i global_name.Promise;
    }

-- ---- what is written

-- the name, if a declaration has it
abbrev pub taken_if : Globals → GlobalName → Option GlobalName
taken_if t g = if has_global t g then Some g else None

-- the name in what is written for a type, if a declaration has it: a name of the source stands beside `Object`
abbrev pub type_taken : Globals → MetadataType → Option GlobalName
type_taken t (metadata_type.Global g) = taken_if t g
type_taken t metadata_type.Undefined = None
type_taken t (metadata_type.Reference n r) = taken_if t global_name.Object

abbrev pub typing_taken : Rules → Globals → Source → Option GlobalName
typing_taken r t x = type_taken t (typed r.metadata x)

-- the same, if there is a type
abbrev pub returned_taken : Rules → Globals → Option Source → Option GlobalName
returned_taken r t None = None
returned_taken r t (Some x) = typing_taken r t x

-- the first in the types of these parameters
abbrev pub among_taken : Rules → Globals → Docs → Option GlobalName
among_taken r t no_docs = None
among_taken r t (doc d ds) = option_or (typing_taken r t (typing_in d)) (among_taken r t ds)

-- that of a parameter that takes the rest, if there is one
abbrev pub rest_taken : Rules → Globals → Option Doc → Option GlobalName
rest_taken r t None = None
rest_taken r t (Some d) = typing_taken r t (typing_in d)

-- the first in the types of all parameters of a method
abbrev pub parameters_taken : Rules → Globals → Doc → Option GlobalName
parameters_taken r t d = option_or (among_taken r t (parameters_of d)) (rest_taken r t (rest_of d))

-- the first in these, and in that of what it returns
abbrev pub method_taken : Rules → Globals → Doc → Option GlobalName
method_taken r t d = option_or (parameters_taken r t d) (returned_taken r t (returned_by d))

-- the first in the metadata of an element
abbrev pub element_taken : Rules → Globals → Doc → Option GlobalName
element_taken r t d =
    option_or (typing_taken r t (design_of d)) (if is_kind kind.MethodDefinition d then method_taken r t d else None)

-- the first in the metadata of a class by that constructor
abbrev pub constructor_taken : Rules → Globals → Option Doc → Option GlobalName
constructor_taken r t None = None
constructor_taken r t (Some d) = parameters_taken r t d

-- The first of the names in the metadata of an element of a class, or of a class, that a declaration around has.
abbrev pub global_taken : Rules → Globals → Doc → Option GlobalName
global_taken r t d =
    if not r.emits then None
    else if is_kind kind.ClassDeclaration d then constructor_taken r t (constructor_in (elements_of d))
    else element_taken r t d
