-- From what the metadata of a class and of its elements is written.
use Rattle.std.specs.Prelude.{ℕ, List, [], ◌∷◌, ◌++◌, map, Bool, ◌||◌, if◌then◌else◌, Option, None, Some, codes}
use Rattle.oxt_declares.specs.Calls.{parameters_of}
use Rattle.oxt_grammar.specs.declared.kind.Kind.TheVariants as kind
use Rattle.oxt_metadata.specs.declared.typing.Typing.{Typing}
use Rattle.oxt_metadata.specs.declared.typing.Typing.TheVariants as typing
use Rattle.oxt_options.specs.declared.metadata.GlobalName.{GlobalName}
use Rattle.oxt_options.specs.declared.metadata.GlobalName.TheVariants as global_name
use Rattle.oxt_options.specs.declared.metadata.MetadataType.{MetadataType}
use Rattle.oxt_options.specs.declared.metadata.MetadataType.TheVariants as metadata_type
use Rattle.oxt_tree.specs.Doc.{Doc, nil, flag, number, text, list, node, Docs, no_docs, doc}
use Rattle.oxt_tree.specs.Fields.{docs_list, field_of, is_kind, is_set, is_text, node_of}
use Rattle.oxt_tree.specs.View.{node_doc}

-- from what a type is written: an annotation, a global name, or `void 0`
pub data Source : Type 0 where
  annotation : Doc → Source
  global : GlobalName → Source
  undefined : Source

-- as the program has it
abbrev pub typing_view : Typing → Source
typing_view (typing.Annotation n) = annotation (node_doc n.now)
typing_view (typing.Global g) = global g
typing_view typing.Undefined = undefined

-- ---- what is written

abbrev pub written_or_object : Option MetadataType → MetadataType
written_or_object None = metadata_type.Global global_name.Object
written_or_object (Some t) = t

-- an annotation, by what is written for those of that number
abbrev pub annotated : (ℕ → Option MetadataType) → Doc → MetadataType
annotated ts (node k i b e ds) = written_or_object (ts i)
annotated ts d = metadata_type.Global global_name.Object

abbrev pub typed : (ℕ → Option MetadataType) → Source → MetadataType
typed ts (annotation d) = annotated ts d
typed ts (global g) = metadata_type.Global g
typed ts undefined = metadata_type.Undefined

-- ---- where that stands

-- what has that annotation: `Object` where it has none
abbrev pub typing_of : Doc → Source
typing_of nil = global global_name.Object
typing_of (flag b) = global global_name.Object
typing_of (number n) = global global_name.Object
typing_of (text t) = global global_name.Object
typing_of (list ds) = global global_name.Object
typing_of (node k i b e ds) = annotation (node k i b e ds)

-- a field, an accessor or a parameter
abbrev pub typing_in : Doc → Source
typing_in d = typing_of (field_of (codes "typeAnnotation") d)

-- a field of the function of a method
abbrev pub function_field : List ℕ → Doc → Doc
function_field name d = field_of name (field_of (codes "value") d)

-- an async method
abbrev pub is_awaited : Doc → Bool
is_awaited d = is_set (function_field (codes "async") d)

-- a setter, by the first of its parameters
abbrev pub setter_design : Docs → Source
setter_design no_docs = global global_name.Object
setter_design (doc d ds) = typing_in d

-- a method: a getter by what it gives, a setter by what it is given, and another one as `Function`
abbrev pub method_design : Doc → Source
method_design d =
    if is_text (codes "get") (field_of (codes "kind") d) then typing_of (function_field (codes "returnType") d)
    else if is_text (codes "set") (field_of (codes "kind") d) then setter_design (parameters_of d)
    else global global_name.Function

-- The type of an element itself.
abbrev pub design_of : Doc → Source
design_of d = if is_kind kind.MethodDefinition d then method_design d else typing_in d

-- what a method with that annotation returns: `void 0` where there is none
abbrev pub returned_so : Doc → Source
returned_so nil = undefined
returned_so (flag b) = undefined
returned_so (number n) = undefined
returned_so (text t) = undefined
returned_so (list ds) = undefined
returned_so (node k i b e ds) = annotation (node k i b e ds)

-- The type of what a method returns; none of a getter or a setter.
abbrev pub returned_by : Doc → Option Source
returned_by d =
    if is_text (codes "get") (field_of (codes "kind") d) || is_text (codes "set") (field_of (codes "kind") d) then None
    else if is_awaited d then Some (global global_name.Promise)
    else Some (returned_so (function_field (codes "returnType") d))

-- the parameter of a method that takes the rest
abbrev pub rest_of : Doc → Option Doc
rest_of d = node_of (field_of (codes "rest") (function_field (codes "params") d))

-- that, as a list
abbrev pub rest_typings : Option Doc → List Source
rest_typings None = []
rest_typings (Some d) = typing_in d ∷ []

-- The types of the parameters of a method, that of the rest last.
abbrev pub parameter_typings : Doc → List Source
parameter_typings d = map typing_in (docs_list (parameters_of d)) ++ rest_typings (rest_of d)
