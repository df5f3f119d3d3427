-- Which expressions may be constants.
use Rattle.std.specs.Prelude.{if◌then◌else◌}
use Rattle.oxt_constant.specs.declared.form.Form.{Form}
use Rattle.oxt_constant.specs.declared.form.Form.TheVariants as form
use Rattle.oxt_grammar.specs.Places.{same_kind}
use Rattle.oxt_grammar.specs.declared.kind.Kind.{Kind}
use Rattle.oxt_grammar.specs.declared.kind.Kind.TheVariants as kind

-- how the constant of an expression of that kind is found
abbrev pub form_of : Kind → Form
form_of k =
    if same_kind k kind.NumericLiteral then form.Number
    else if same_kind k kind.StringLiteral then form.String
    else if same_kind k kind.TemplateLiteral then form.Template
    else if same_kind k kind.ParenthesizedExpression then form.Parentheses
    else if same_kind k kind.UnaryExpression then form.Unary
    else if same_kind k kind.BinaryExpression then form.Binary
    else if same_kind k kind.IdentifierReference then form.Name
    else if same_kind k kind.StaticMemberExpression then form.Static
    else if same_kind k kind.ComputedMemberExpression then form.Computed
    else form.Other
