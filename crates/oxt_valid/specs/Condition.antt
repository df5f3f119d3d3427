-- The conditions on nodes beside what their fields hold.
use Rattle.std.specs.Prelude.{ℕ, ◌+◌, List, Bool, true, false, not, ◌&&◌, ◌||◌, ◌==◌, nat_lt, if◌then◌else◌, Option, None, Some, codes, count_by}
use Rattle.std.specs.List.{list_any}
use Rattle.oxt_grammar.specs.Context.{condition_of}
use Rattle.oxt_grammar.specs.declared.category.Category.TheVariants as category
use Rattle.oxt_grammar.specs.declared.context.Condition.{Condition}
use Rattle.oxt_grammar.specs.declared.context.Condition.TheVariants as condition
use Rattle.oxt_grammar.specs.declared.context.Setting.{Setting}
use Rattle.oxt_grammar.specs.declared.context.Setting.TheVariants as setting
use Rattle.oxt_grammar.specs.declared.kind.Kind.{Kind}
use Rattle.oxt_grammar.specs.declared.kind.Kind.TheVariants as kind
use Rattle.oxt_tree.specs.Doc.{Doc, Docs}
use Rattle.oxt_tree.specs.Fields.{named, field_of, elements, docs_list, first, count, is_nil, is_set, is_text, is_kind, is_in}
use Rattle.oxt_tree.specs.Inner.{seen}

-- a number, a whole number or a text
abbrev pub is_literal : Doc → Bool
is_literal d =
    is_kind kind.NumericLiteral d || (is_kind kind.BigIntLiteral d || is_kind kind.StringLiteral d)

-- A name is no computed key, and a literal may be either. A private name is a key of class
-- elements alone.
abbrev pub key_fails : Bool → Doc → Doc → Bool
key_fails is_element key computed =
    if is_kind kind.IdentifierName key then is_set computed
    else if is_kind kind.PrivateIdentifier key then is_set computed || not is_element
    else not (is_literal key) && not (is_set computed)

abbrev pub is_chain_link : Doc → Bool
is_chain_link d = is_kind kind.CallExpression d || is_in category.MemberExpression d

-- A `!` in a chain holds a call or a member.
abbrev pub chain_fails : Doc → Bool
chain_fails e = is_kind kind.TSNonNullExpression e && not (is_chain_link (seen e))

-- A template has a text before and behind each expression.
abbrev pub template_fails : Doc → Doc → Bool
template_fails quasis expressions =
    not (count (elements quasis) == count (elements expressions) + 1)

-- the first of them is a text whose escapes are read
abbrev pub begins_with_text : Docs → Bool
begins_with_text quasis = not (is_nil (field_of (codes "cooked") (first quasis)))

-- a template without expressions that has a text
abbrev pub is_plain_template : Doc → Bool
is_plain_template d =
    (count (elements (field_of (codes "expressions") d)) == 0)
    && begins_with_text (elements (field_of (codes "quasis") d))

-- A template that names an enum's member is such a one, in brackets; a name is not in brackets.
abbrev pub member_fails : Doc → Doc → Bool
member_fails id computed =
    if is_kind kind.TemplateLiteral id then not (is_set computed && is_plain_template id)
    else is_kind kind.IdentifierName id && is_set computed

abbrev pub is_constructor : Doc → Bool
is_constructor d =
    is_text (codes "constructor") (field_of (codes "kind") d) && is_kind kind.MethodDefinition d

abbrev pub is_static_constructor : Doc → Bool
is_static_constructor d = is_constructor d && is_set (field_of (codes "static") d)

abbrev pub is_constructor_with_body : Doc → Bool
is_constructor_with_body d =
    is_constructor d
    && (is_kind kind.MethodDefinition d
    && is_kind kind.FunctionExpression (field_of (codes "value") d))

-- A class has at most one constructor with a body, and none that is static.
abbrev pub constructors_fail : List Doc → Bool
constructors_fail ds =
    list_any is_static_constructor ds || nat_lt 1 (count_by is_constructor_with_body ds)

abbrev pub is_default_export : Setting → Bool
is_default_export setting.DefaultExport = true
is_default_export setting.NamedExport = false
is_default_export setting.Elsewhere = false

-- The operand of a sign in a literal type is a literal.
abbrev pub literal_fails : Doc → Bool
literal_fails d = is_kind kind.UnaryExpression d && not (is_literal (field_of (codes "argument") d))

-- the field, where the condition fails
abbrev pub fault_at : List ℕ → Bool → Option (List ℕ)
fault_at name fails = if fails then Some name else None

-- the field at which the node fails to meet a condition
abbrev pub fault_of : Condition → Setting → Kind → Docs → Option (List ℕ)
fault_of condition.Nothing s k ds = None
fault_of condition.ElementKey s k ds =
    fault_at (codes "computed")
    (key_fails true (named (codes "key") k ds) (named (codes "computed") k ds))
fault_of condition.PlainKey s k ds =
    fault_at (codes "computed")
    (key_fails false (named (codes "key") k ds) (named (codes "computed") k ds))
fault_of condition.TargetKey s k ds =
    fault_at (codes "computed")
    (key_fails false (named (codes "name") k ds) (named (codes "computed") k ds))
fault_of condition.Number s k ds =
    fault_at (codes "value")
    (is_nil (named (codes "value") k ds) && is_nil (named (codes "raw") k ds))
fault_of condition.Chain s k ds =
    fault_at (codes "expression") (chain_fails (named (codes "expression") k ds))
fault_of condition.Template s k ds =
    fault_at (codes "quasis")
    (template_fails (named (codes "quasis") k ds) (named (codes "expressions") k ds))
fault_of condition.EnumMember s k ds =
    fault_at (codes "id") (member_fails (named (codes "id") k ds) (named (codes "computed") k ds))
fault_of condition.Constructors s k ds =
    fault_at (codes "body") (constructors_fail (docs_list (elements (named (codes "body") k ds))))
fault_of condition.NamedDeclaration s k ds =
    fault_at (codes "id") (is_nil (named (codes "id") k ds) && not (is_default_export s))
fault_of condition.LiteralType s k ds =
    fault_at (codes "literal") (literal_fails (named (codes "literal") k ds))

-- the same by the node's kind
abbrev pub fault : Setting → Kind → Docs → Option (List ℕ)
fault s k ds = fault_of (condition_of k) s k ds
