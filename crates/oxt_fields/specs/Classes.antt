-- The parts of a class and of its constructor.
use Rattle.std.specs.Prelude.{ℕ, ◌+◌, Bool, false, not, ◌&&◌, ◌||◌, Option, None, Some, codes, find}
use Rattle.std.specs.List.{position_from}
use Rattle.oxt_grammar.specs.Places.{same_kind}
use Rattle.oxt_grammar.specs.declared.kind.Kind.{Kind}
use Rattle.oxt_grammar.specs.declared.kind.Kind.TheVariants as kind
use Rattle.oxt_tree.specs.Doc.{Doc, nil, flag, number, text, list, node, Docs}
use Rattle.oxt_tree.specs.Fields.{docs_list, elements, field_of, is_kind, is_nil, is_set, is_text, named}

-- ---- classes

-- the elements of a class
abbrev pub elements_of : Doc → Docs
elements_of d = elements (field_of (codes "body") (field_of (codes "body") d))

-- a class that extends another
abbrev pub is_derived : Doc → Bool
is_derived d = not (is_nil (field_of (codes "superClass") d))

-- a constructor that has a body
abbrev pub is_constructor : Doc → Bool
is_constructor d =
    is_kind kind.MethodDefinition d
    && (is_text (codes "constructor") (field_of (codes "kind") d)
    && is_kind kind.FunctionExpression (field_of (codes "value") d))

-- the first of the elements that is such
abbrev pub constructor_in : Docs → Option Doc
constructor_in ds = find is_constructor (docs_list ds)

-- ---- methods

-- the parameters of a method but for the one that takes the rest
abbrev pub parameters_of : Doc → Docs
parameters_of d = elements (field_of (codes "items") (field_of (codes "params") (field_of (codes "value") d)))

-- the statements of its body
abbrev pub statements_of : Doc → Docs
statements_of d = elements (field_of (codes "statements") (field_of (codes "body") (field_of (codes "value") d)))

-- a parameter says how the property of its name is reached
abbrev pub has_modifier : Kind → Docs → Bool
has_modifier k ds =
    not (is_nil (named (codes "accessibility") k ds))
    || (is_set (named (codes "readonly") k ds) || is_set (named (codes "override") k ds))

-- a parameter that is a property of its class too: it does so, and it is a plain name
abbrev pub is_property_by : Kind → Docs → Bool
is_property_by k ds =
    same_kind k kind.FormalParameter
    && (has_modifier k ds && is_kind kind.BindingIdentifier (named (codes "pattern") k ds))

abbrev pub is_property : Doc → Bool
is_property nil = false
is_property (flag b) = false
is_property (number n) = false
is_property (text t) = false
is_property (list ds) = false
is_property (node k i b e ds) = is_property_by k ds

-- ---- the call of the constructor further out

-- a call of `super`
abbrev pub is_super_call : Doc → Bool
is_super_call d = is_kind kind.CallExpression d && is_kind kind.Super (field_of (codes "callee") d)

-- a statement that is such a call, without parentheses
abbrev pub is_super_statement : Doc → Bool
is_super_statement d = is_kind kind.ExpressionStatement d && is_super_call (field_of (codes "expression") d)

-- the place behind that one; the first where there is none
abbrev pub behind : Option ℕ → ℕ
behind None = 0
behind (Some i) = i + 1

-- The place behind the first of the statements that is such a call; the first place where none is.
abbrev pub super_call_position : Docs → ℕ
super_call_position ds = behind (position_from is_super_statement 0 (docs_list ds))
