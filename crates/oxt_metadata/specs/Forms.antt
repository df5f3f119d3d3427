-- How metadata writes the forms of types.
use Rattle.std.specs.Prelude.{if◌then◌else◌, codes}
use Rattle.oxt_grammar.specs.Places.{same_kind}
use Rattle.oxt_grammar.specs.declared.kind.Kind.{Kind}
use Rattle.oxt_grammar.specs.declared.kind.Kind.TheVariants as kind
use Rattle.oxt_metadata.specs.declared.form.Form.{Form}
use Rattle.oxt_metadata.specs.declared.form.Form.TheVariants as form
use Rattle.oxt_metadata.specs.declared.form.Join.TheVariants as join
use Rattle.oxt_options.specs.declared.metadata.GlobalName.{GlobalName}
use Rattle.oxt_options.specs.declared.metadata.GlobalName.TheVariants as global_name
use Rattle.oxt_options.specs.declared.metadata.MetadataType.{MetadataType}
use Rattle.oxt_options.specs.declared.metadata.MetadataType.TheVariants as metadata_type
use Rattle.oxt_tree.specs.Doc.{Doc, nil, flag, number, text, list, node, Docs}
use Rattle.oxt_tree.specs.Fields.{is_kind, is_set, is_text, named}

-- types of that kind, which has no parts that count
abbrev pub keyword_name : Kind → GlobalName
keyword_name kind.TSFunctionType = global_name.Function
keyword_name kind.TSConstructorType = global_name.Function
keyword_name kind.TSArrayType = global_name.Array
keyword_name kind.TSTupleType = global_name.Array
keyword_name kind.TSBooleanKeyword = global_name.Boolean
keyword_name kind.TSStringKeyword = global_name.String
keyword_name kind.TSTemplateLiteralType = global_name.String
keyword_name kind.TSNumberKeyword = global_name.Number
keyword_name kind.TSBigIntKeyword = global_name.BigInt
keyword_name kind.TSSymbolKeyword = global_name.Symbol
keyword_name k = global_name.Object

-- a literal with a sign: a number or a bigint as that, and anything else as a text
abbrev pub signed_name : Doc → GlobalName
signed_name d =
    if is_kind kind.NumericLiteral d then global_name.Number
    else if is_kind kind.BigIntLiteral d then global_name.BigInt
    else global_name.String

-- a literal of that kind, which has no sign
abbrev pub value_name : Kind → GlobalName
value_name kind.BooleanLiteral = global_name.Boolean
value_name kind.NumericLiteral = global_name.Number
value_name kind.BigIntLiteral = global_name.BigInt
value_name kind.StringLiteral = global_name.String
value_name kind.TemplateLiteral = global_name.String
value_name k = global_name.Object

-- a literal
abbrev pub literal_name : Doc → GlobalName
literal_name nil = global_name.Object
literal_name (flag b) = global_name.Object
literal_name (number n) = global_name.Object
literal_name (text t) = global_name.Object
literal_name (list ds) = global_name.Object
literal_name (node k i b e ds) =
    if same_kind k kind.UnaryExpression then signed_name (named (codes "argument") k ds) else value_name k

-- the type of a literal
abbrev pub literal_type : Kind → Docs → MetadataType
literal_type k ds = metadata_type.Global (literal_name (named (codes "literal") k ds))

-- a predicate
abbrev pub predicate_type : Kind → Docs → MetadataType
predicate_type k ds =
    if is_set (named (codes "asserts") k ds) then metadata_type.Undefined else metadata_type.Global global_name.Boolean

-- a type with an operator: with `readonly` it is written as the type behind that
abbrev pub operator_form : Kind → Docs → Form
operator_form k ds =
    if is_text (codes "readonly") (named (codes "operator") k ds) then form.Passed
    else form.Written (metadata_type.Global global_name.Object)

-- How metadata writes a type.
abbrev pub form_of : Kind → Docs → Form
form_of kind.TSTypeAnnotation ds = form.Passed
form_of kind.TSParenthesizedType ds = form.Passed
form_of kind.JSDocNullableType ds = form.Passed
form_of kind.JSDocNonNullableType ds = form.Passed
form_of kind.TSTypeOperator ds = operator_form kind.TSTypeOperator ds
form_of kind.TSUnionType ds = form.Joined join.Union
form_of kind.TSIntersectionType ds = form.Joined join.Intersection
form_of kind.TSConditionalType ds = form.Conditional
form_of kind.TSTypeReference ds = form.Reference
form_of kind.TSTypePredicate ds = form.Written (predicate_type kind.TSTypePredicate ds)
form_of kind.TSLiteralType ds = form.Written (literal_type kind.TSLiteralType ds)
form_of kind.TSVoidKeyword ds = form.Written metadata_type.Undefined
form_of kind.TSUndefinedKeyword ds = form.Written metadata_type.Undefined
form_of kind.TSNullKeyword ds = form.Written metadata_type.Undefined
form_of kind.TSNeverKeyword ds = form.Written metadata_type.Undefined
form_of k ds = form.Written (metadata_type.Global (keyword_name k))
