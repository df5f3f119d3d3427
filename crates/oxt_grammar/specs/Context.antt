-- Written by tools/grammar.py from grammar/grammar.txt.
use Rattle.oxt_grammar.specs.declared.kind.Kind.{Kind}
use Rattle.oxt_grammar.specs.declared.kind.Kind.TheVariants as kind
use Rattle.oxt_grammar.specs.declared.context.Condition.{Condition}
use Rattle.oxt_grammar.specs.declared.context.Condition.TheVariants as condition
use Rattle.oxt_grammar.specs.declared.context.Setting.{Setting}
use Rattle.oxt_grammar.specs.declared.context.Setting.TheVariants as setting

-- the condition that a node has to meet beside what its fields hold
abbrev pub condition_of : Kind → Condition
condition_of kind.FunctionDeclaration = condition.NamedDeclaration
condition_of kind.TSDeclareFunction = condition.NamedDeclaration
condition_of kind.ClassDeclaration = condition.NamedDeclaration
condition_of kind.ClassBody = condition.Constructors
condition_of kind.MethodDefinition = condition.ElementKey
condition_of kind.TSAbstractMethodDefinition = condition.ElementKey
condition_of kind.PropertyDefinition = condition.ElementKey
condition_of kind.TSAbstractPropertyDefinition = condition.ElementKey
condition_of kind.AccessorProperty = condition.ElementKey
condition_of kind.TSAbstractAccessorProperty = condition.ElementKey
condition_of kind.BindingProperty = condition.PlainKey
condition_of kind.AssignmentTargetPropertyProperty = condition.TargetKey
condition_of kind.NumericLiteral = condition.Number
condition_of kind.TemplateLiteral = condition.Template
condition_of kind.ObjectProperty = condition.PlainKey
condition_of kind.ChainExpression = condition.Chain
condition_of kind.TSEnumMember = condition.EnumMember
condition_of kind.TSLiteralType = condition.LiteralType
condition_of k = condition.Nothing

-- what the nodes in its fields stand in
abbrev pub setting_of : Kind → Setting
setting_of kind.ExportNamedDeclaration = setting.NamedExport
setting_of kind.ExportDefaultDeclaration = setting.DefaultExport
setting_of k = setting.Elsewhere
