-- Nodes that are made.
use Rattle.std.specs.Prelude.{ℕ, ◌+◌, List, [], ◌∷◌, codes, false, Option}
use Rattle.oxt_grammar.specs.declared.kind.Kind.{Kind}
use Rattle.oxt_grammar.specs.declared.kind.Kind.TheVariants as kind
use Rattle.oxt_stores.specs.Frame.{binding, declaration, declarator}
use Rattle.oxt_tree.specs.Doc.{Doc, nil, flag, number, text, list, node, Docs, no_docs, doc}

-- a node that has no place in a source text
abbrev pub made : Kind → ℕ → Docs → Doc
made k n ds = node k n 0 0 ds

-- the name of a property
abbrev pub property_name : ℕ → List ℕ → Doc
property_name n t = made kind.IdentifierName n (doc (text t) no_docs)

-- a text
abbrev pub string_literal : ℕ → List ℕ → Doc
string_literal n t = made kind.StringLiteral n (doc (text t) (doc nil no_docs))

-- a whole number
abbrev pub number_literal : ℕ → ℕ → Doc
number_literal n v = made kind.NumericLiteral n (doc (number v) (doc nil no_docs))

-- the operator in front of the operand
abbrev pub unary : ℕ → List ℕ → Doc → Doc
unary n t e = made kind.UnaryExpression n (doc (text t) (doc e no_docs))

-- `-e`
abbrev pub negative : ℕ → Doc → Doc
negative n e = unary n (codes "-") e

-- `void 0`
abbrev pub void_zero : ℕ → Doc
void_zero n = unary (n + 1) (codes "void") (number_literal n 0)

-- `null`
abbrev pub null_literal : ℕ → Doc
null_literal n = made kind.NullLiteral n no_docs

-- `this`
abbrev pub this_expression : ℕ → Doc
this_expression n = made kind.ThisExpression n no_docs

-- an array of these
abbrev pub array : ℕ → Docs → Doc
array n es = made kind.ArrayExpression n (doc (list es) no_docs)

-- the sequence of these
abbrev pub row : ℕ → Docs → Doc
row n es = made kind.SequenceExpression n (doc (list es) no_docs)

-- a call
abbrev pub call : ℕ → Doc → Docs → Doc
call n callee arguments =
    made kind.CallExpression n (doc callee (doc nil (doc (list arguments) (doc (flag false) (doc (flag false) no_docs)))))

-- a private name
abbrev pub private_name : ℕ → List ℕ → Doc
private_name n t = made kind.PrivateIdentifier n (doc (text t) no_docs)

-- a member of an object that is not optional
abbrev pub access : Kind → ℕ → Doc → Doc → Doc
access k n object key = made k n (doc object (doc key (doc (flag false) no_docs)))

-- `object.property`
abbrev pub member : ℕ → Doc → Doc → Doc
member n object property = access kind.StaticMemberExpression n object property

-- `object[key]`
abbrev pub computed : ℕ → Doc → Doc → Doc
computed n object key = access kind.ComputedMemberExpression n object key

-- `object.#field`
abbrev pub private_member : ℕ → Doc → Doc → Doc
private_member n object field = access kind.PrivateFieldExpression n object field

-- `target = value`
abbrev pub assignment : ℕ → Doc → Doc → Doc
assignment n target value = made kind.AssignmentExpression n (doc (text (codes "=")) (doc target (doc value no_docs)))

-- `left + right`
abbrev pub sum : ℕ → Doc → Doc → Doc
sum n left right = made kind.BinaryExpression n (doc (text (codes "+")) (doc left (doc right no_docs)))

-- `left || right`
abbrev pub alternative : ℕ → Doc → Doc → Doc
alternative n left right = made kind.LogicalExpression n (doc (text (codes "||")) (doc left (doc right no_docs)))

-- `{}`
abbrev pub empty_object : ℕ → Doc
empty_object n = made kind.ObjectExpression n (doc (list no_docs) no_docs)

-- `e;`
abbrev pub statement : ℕ → Doc → Doc
statement n e = made kind.ExpressionStatement n (doc e no_docs)

-- `return e;`
abbrev pub returned : ℕ → Doc → Doc
returned n e = made kind.ReturnStatement n (doc e no_docs)

-- the node as one of another kind with the same fields
abbrev pub of_kind : Kind → Doc → Doc
of_kind k (node j i b e ds) = node k i b e ds
of_kind k d = d

-- `export { local as t };`
abbrev pub export_list : ℕ → Doc → List ℕ → Doc
export_list n local t =
    made kind.ExportNamedDeclaration (n + 2) (doc (text (codes "value"))
    (doc (list (doc (made kind.ExportSpecifier (n + 1) (doc (text (codes "value")) (doc local (doc (property_name n t) no_docs)))) no_docs)) no_docs))

-- `export default e;`
abbrev pub default_export : ℕ → Doc → Doc
default_export n e = made kind.ExportDefaultDeclaration n (doc e no_docs)

-- `word t = value;`, or without a value `word t;`
abbrev pub variable : ℕ → List ℕ → List ℕ → Option Doc → Doc
variable n word t value = declaration (n + 2) word (declarator (n + 1) (binding n t) value ∷ [])
