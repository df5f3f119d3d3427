-- Which elements of a class give calls behind it, and which classes are themselves decorated.
use Rattle.std.specs.Prelude.{Bool, true, false, not, ◌&&◌, ◌||◌, codes}
use Rattle.std.specs.List.{list_any}
use Rattle.oxt_grammar.specs.declared.kind.Kind.TheVariants as kind
use Rattle.oxt_tree.specs.Doc.{Doc, Docs, no_docs, doc}
use Rattle.oxt_tree.specs.Fields.{docs_list, elements, field_of, is_kind, is_text}

-- ---- the parts of a class

-- the elements of a class
abbrev pub elements_of : Doc → Docs
elements_of d = elements (field_of (codes "body") (field_of (codes "body") d))

-- the parameters of a method but for the one that takes the rest
abbrev pub parameters_of : Doc → Docs
parameters_of d = elements (field_of (codes "items") (field_of (codes "params") (field_of (codes "value") d)))

-- a constructor that has a body
abbrev pub is_constructor : Doc → Bool
is_constructor d =
    is_kind kind.MethodDefinition d
    && (is_text (codes "constructor") (field_of (codes "kind") d)
    && is_kind kind.FunctionExpression (field_of (codes "value") d))

-- ---- decorators

-- some document
abbrev pub has_any : Docs → Bool
has_any no_docs = false
has_any (doc d ds) = true

-- the decorators of a class, an element or a parameter
abbrev pub decorators_of : Doc → Docs
decorators_of d = elements (field_of (codes "decorators") d)

abbrev pub has_decorator : Doc → Bool
has_decorator d = has_any (decorators_of d)

-- one of the parameters of a method has a decorator
abbrev pub decorates_parameter : Doc → Bool
decorates_parameter d = list_any has_decorator (docs_list (parameters_of d))

-- ---- calls

-- a method that has a body and is no constructor
abbrev pub is_plain_method : Doc → Bool
is_plain_method d =
    is_kind kind.MethodDefinition d
    && (not (is_text (codes "constructor") (field_of (codes "kind") d))
    && is_kind kind.FunctionExpression (field_of (codes "value") d))

-- An element gives a call behind its class: a field, only declared or not, or an accessor, that has a decorator, or a method
-- with a body, no constructor, that has one or of which a parameter has one. None of them is abstract.
abbrev pub is_called : Doc → Bool
is_called d =
    ((is_kind kind.PropertyDefinition d || is_kind kind.AccessorProperty d) && has_decorator d)
    || (is_plain_method d && (has_decorator d || decorates_parameter d))

-- one of the elements gives a call
abbrev pub calls_any : Docs → Bool
calls_any ds = list_any is_called (docs_list ds)

-- ---- classes

-- a constructor with a body, of which a parameter has a decorator
abbrev pub is_decorating : Doc → Bool
is_decorating d = is_constructor d && decorates_parameter d

-- A class is itself decorated: a declaration that has a decorator, or whose constructor has a parameter with one. Whether the
-- class is erased is another question.
abbrev pub is_decorated : Doc → Bool
is_decorated d = is_kind kind.ClassDeclaration d && (has_decorator d || list_any is_decorating (docs_list (elements_of d)))
