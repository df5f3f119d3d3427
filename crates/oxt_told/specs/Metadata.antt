-- What is told of the metadata of classes and of their elements.
use Rattle.std.specs.Prelude.{ℕ, List, [], ◌∷◌, ◌++◌, not, if◌then◌else◌, Option, None, Some, option_map}
use Rattle.oxt_declares.specs.Calls.{parameters_of}
use Rattle.oxt_facts.specs.Told.{Described, Typed, global_type, named_type, undefined_type, undescribed}
use Rattle.oxt_fields.specs.Classes.{constructor_in, elements_of}
use Rattle.oxt_fields.specs.Rules.{Rules}
use Rattle.oxt_grammar.specs.declared.kind.Kind.TheVariants as kind
use Rattle.oxt_metadata.specs.DottedNames.{node_numbered, path, root, text_of}
use Rattle.oxt_metadata.specs.Types.{number_in}
use Rattle.oxt_metadata.specs.Typings.{Source, annotation, design_of, global, rest_of, returned_by, typed, typing_in, undefined}
use Rattle.oxt_options.specs.Metadata.{text_of_global}
use Rattle.oxt_options.specs.declared.metadata.MetadataType.{MetadataType}
use Rattle.oxt_options.specs.declared.metadata.MetadataType.TheVariants as metadata_type
use Rattle.oxt_tree.specs.Doc.{Doc, Docs, no_docs, doc}
use Rattle.oxt_tree.specs.Fields.{is_kind}

-- ---- types

-- a dotted name
abbrev pub name_told : Doc → Typed
name_told d = named_type (number_in (root d)) (text_of (root d)) (path d)

-- the same, if there is one
abbrev pub name_or_none : Option Doc → Typed
name_or_none None = undefined_type
name_or_none (Some d) = name_told d

-- the dotted name of that number in an annotation
abbrev pub reference_told : ℕ → Doc → Typed
reference_told n d = name_or_none (node_numbered n d)

-- where no name of the source is written
abbrev pub simple_told : MetadataType → Typed
simple_told (metadata_type.Global g) = global_type (text_of_global g)
simple_told metadata_type.Undefined = undefined_type
simple_told (metadata_type.Reference n r) = undefined_type

-- where that is written for an annotation
abbrev pub written_told : MetadataType → Doc → Typed
written_told (metadata_type.Reference n r) d = reference_told n.0 d
written_told (metadata_type.Global g) d = simple_told (metadata_type.Global g)
written_told metadata_type.Undefined d = simple_told metadata_type.Undefined

-- a type, from what it is written
abbrev pub type_told : Rules → Source → Typed
type_told r (annotation d) = written_told (typed r.metadata (annotation d)) d
type_told r (global g) = simple_told (typed r.metadata (global g))
type_told r undefined = simple_told (typed r.metadata undefined)

-- the types of these parameters
abbrev pub types_told : Rules → Docs → List Typed
types_told r no_docs = []
types_told r (doc d ds) = type_told r (typing_in d) ∷ types_told r ds

-- that of the parameter that takes the rest, if there is one
abbrev pub rest_by : Rules → Option Doc → List Typed
rest_by r None = []
rest_by r (Some d) = type_told r (typing_in d) ∷ []

abbrev pub rest_told : Rules → Doc → List Typed
rest_told r d = rest_by r (rest_of d)

-- the types of the parameters of a method, that of the rest last
abbrev pub parameters_told : Rules → Doc → List Typed
parameters_told r d = types_told r (parameters_of d) ++ rest_told r d

-- the type of what a method returns, if it has one
abbrev pub returned_told : Rules → Doc → Option Typed
returned_told r d = option_map (type_told r) (returned_by d)

-- ---- elements and classes

-- a method has the types of its parameters, and of what it returns
abbrev pub method_described : Rules → Doc → Described
method_described r d =
    record {
      design = Some (type_told r (design_of d));
      parameters = Some (parameters_told r d);
      returned = returned_told r d;
    }

-- the getter of an accessor has no parameters
abbrev pub accessor_described : Rules → Doc → Described
accessor_described r d =
    record { design = Some (type_told r (design_of d)); parameters = Some []; returned = None }

abbrev pub field_described : Rules → Doc → Described
field_described r d = record { design = Some (type_told r (design_of d)); parameters = None; returned = None }

-- The metadata of an element, if metadata is emitted.
abbrev pub element_described : Rules → Doc → Described
element_described r d =
    if not r.emits then undescribed
    else if is_kind kind.MethodDefinition d then method_described r d
    else if is_kind kind.AccessorProperty d then accessor_described r d
    else field_described r d

-- that of a class by its constructor
abbrev pub constructor_described : Rules → Doc → Described
constructor_described r d = record { design = None; parameters = Some (parameters_told r d); returned = None }

abbrev pub described_by : Rules → Option Doc → Described
described_by r None = undescribed
described_by r (Some d) = if r.emits then constructor_described r d else undescribed

-- The metadata of a class itself, by its constructor, if metadata is emitted.
abbrev pub class_described : Rules → Doc → Described
class_described r d = described_by r (constructor_in (elements_of d))
