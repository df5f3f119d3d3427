-- What is told of decorators, and of names that are read as the alias of a class or as its inner name.
use Rattle.std.specs.Prelude.{ℕ, ◌+◌, List, [], ◌∷◌, ◌++◌, Bool, true, false, ◌&&◌, ◌==◌, if◌then◌else◌, Option, None, Some, codes}
use Rattle.oxt_declares.specs.Calls.{is_called}
use Rattle.oxt_facts.specs.Told.{Tellings, alias, applied, inner}
use Rattle.oxt_fields.specs.Classes.{elements_of, parameters_of}
use Rattle.oxt_fields.specs.Rules.{Rules}
use Rattle.oxt_metadata.specs.Typings.{function_field}
use Rattle.oxt_grammar.specs.Places.{same_kind}
use Rattle.oxt_grammar.specs.declared.kind.Kind.{Kind}
use Rattle.oxt_grammar.specs.declared.kind.Kind.TheVariants as kind
use Rattle.oxt_scoping.specs.Scoped.{Scoped}
use Rattle.oxt_search.specs.All.{all_among, all_in}
use Rattle.oxt_search.specs.Sought.{Sought}
use Rattle.oxt_tree.specs.declared.inside.Inside.TheVariants as inside
use Rattle.oxt_told.specs.Decorated.{default_told}
use Rattle.oxt_told.specs.Groups.{own_group}
use Rattle.oxt_told.specs.Symbols.{group_of}
use Rattle.oxt_told.specs.Tags.{alias_part, class_symbol, tag_at}
use Rattle.oxt_told.specs.declared.lowering.Lowering.{Lowering}
use Rattle.oxt_tree.specs.Doc.{Doc, nil, flag, number, text, list, node, Docs, no_docs, doc}
use Rattle.oxt_tree.specs.Fields.{elements, field_of}

-- ---- decorators

-- a decorator, which decorates the parameter at that place, if it decorates one
abbrev pub decorator_told : Option ℕ → Doc → Tellings
decorator_told p nil = []
decorator_told p (flag b) = []
decorator_told p (number n) = []
decorator_told p (text t) = []
decorator_told p (list ds) = []
decorator_told p (node k i b e ds) = (i, applied p) ∷ []

abbrev pub decorators_told : Option ℕ → Docs → Tellings
decorators_told p no_docs = []
decorators_told p (doc d ds) = decorator_told p d ++ decorators_told p ds

-- the decorators that a class, an element or a parameter has
abbrev pub decorators_of : Doc → Docs
decorators_of d = elements (field_of (codes "decorators") d)

-- those of parameters, the first of which stands at that place
abbrev pub parameters_told : ℕ → Docs → Tellings
parameters_told n no_docs = []
parameters_told n (doc d ds) = decorators_told (Some n) (decorators_of d) ++ parameters_told (n + 1) ds

-- ---- inner names

-- the groups are there, and are the same
abbrev pub same_group : Option ℕ → Option ℕ → Bool
same_group None h = false
same_group (Some g) None = false
same_group (Some g) (Some h) = g == h

-- a node of that number, if it is a use of a name that means that group
abbrev pub use_at : Scoped → Option ℕ → Kind → ℕ → Option ℕ
use_at s g k i = if same_kind k kind.IdentifierReference && same_group g (own_group s k i) then Some i else None

-- each such use
abbrev pub group_uses : Scoped → Option ℕ → Sought (Unit {0}) ℕ
group_uses s g =
    record {
      at = λ u k i ds. use_at s g k i;
      inside = λ u k i ds. inside.Alike u;
      in_field = λ u k f. Some u;
    }

-- those in a node
abbrev pub in_part : Sought (Unit {0}) ℕ → Doc → List ℕ
in_part q nil = []
in_part q (flag b) = []
in_part q (number n) = []
in_part q (text t) = []
in_part q (list ds) = []
in_part q (node k i b e ds) = all_in q (node k i b e ds) tt

-- those in the annotations of parameters
abbrev pub in_types : Sought (Unit {0}) ℕ → Docs → List ℕ
in_types q no_docs = []
in_types q (doc d ds) = in_part q (field_of (codes "typeAnnotation") d) ++ in_types q ds

-- those in the decorators of parameters
abbrev pub in_parameters : Sought (Unit {0}) ℕ → Docs → List ℕ
in_parameters q no_docs = []
in_parameters q (doc d ds) = all_among q (decorators_of d) tt ++ in_parameters q ds

-- those in the annotations of which the metadata of an element tells: its own, of its parameters, and of what it returns
abbrev pub in_annotations : Sought (Unit {0}) ℕ → Doc → List ℕ
in_annotations q d =
    in_part q (field_of (codes "typeAnnotation") d)
    ++ (in_types q (parameters_of d)
    ++ (in_part q (field_of (codes "typeAnnotation") (field_of (codes "rest") (function_field (codes "params") d)))
    ++ in_part q (function_field (codes "returnType") d)))

-- those in the decorators of an element and of its parameters, and in these annotations
abbrev pub in_called : Sought (Unit {0}) ℕ → Doc → List ℕ
in_called q d = (all_among q (decorators_of d) tt ++ in_parameters q (parameters_of d)) ++ in_annotations q d

-- the same, if it gives a call
abbrev pub in_element : Sought (Unit {0}) ℕ → Doc → List ℕ
in_element q d = if is_called d then in_called q d else []

abbrev pub in_elements : Sought (Unit {0}) ℕ → Docs → List ℕ
in_elements q no_docs = []
in_elements q (doc d ds) = in_element q d ++ in_elements q ds

-- those in decorators and annotations of elements whose calls stand in the class
abbrev pub in_inside : Sought (Unit {0}) ℕ → Lowering → Doc → List ℕ
in_inside q w d = if w.is_inside then in_elements q (elements_of d) else []

-- the uses that mean the inner name of a decorated class: those in what it extends, and those in decorators and annotations of
-- elements whose calls stand in it
abbrev pub inner_uses : Sought (Unit {0}) ℕ → Lowering → Doc → List ℕ
inner_uses q w d = in_part q (field_of (codes "superClass") d) ++ in_inside q w d

-- these uses mean that group
abbrev pub uses_told : ℕ → List ℕ → Tellings
uses_told g [] = []
uses_told g (i ∷ is) = (i, inner g) ∷ uses_told g is

-- those of a class of that number
abbrev pub inner_told : Scoped → Lowering → ℕ → Doc → Tellings
inner_told s w i d =
    if w.is_decorated then uses_told i (inner_uses (group_uses s (group_of (class_symbol s d))) w d) else []

-- ---- aliases

-- a name that is read as the alias of the class of that number
abbrev pub alias_told : ℕ → Option ℕ → Tellings
alias_told i None = []
alias_told i (Some c) = (i, alias (tag_at c alias_part)) ∷ []

-- ---- nodes

-- the kinds of classes and of their elements that have decorators
abbrev pub has_decorators : Kind → Bool
has_decorators kind.ClassDeclaration = true
has_decorators kind.ClassExpression = true
has_decorators kind.MethodDefinition = true
has_decorators kind.PropertyDefinition = true
has_decorators kind.AccessorProperty = true
has_decorators k = false

-- What decorators make of a node of that number, where they are called: its own decorators and those of its parameters are
-- applied, a name is read as an alias, and a default export is that of a class with calls behind it.
abbrev pub called_there : Scoped → Rules → Kind → ℕ → Doc → Tellings
called_there s r k i d =
    if same_kind k kind.IdentifierReference then alias_told i (r.alias i)
    else if same_kind k kind.FormalParameters then parameters_told 0 (elements (field_of (codes "items") d))
    else if same_kind k kind.ExportDefaultDeclaration then default_told s r i (field_of (codes "declaration") d)
    else if has_decorators k then decorators_told None (decorators_of d)
    else []

abbrev pub legacy_told : Scoped → Rules → Kind → ℕ → Doc → Tellings
legacy_told s r k i d = if r.legacy then called_there s r k i d else []
