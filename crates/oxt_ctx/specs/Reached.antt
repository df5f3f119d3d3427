-- Which hooks a node reaches.
use Rattle.std.specs.Prelude.{Bool, true, List, [], ◌∷◌}
use Rattle.oxt_grammar.specs.Places.{kind_in}
use Rattle.oxt_grammar.specs.declared.category.Category.{Category}
use Rattle.oxt_grammar.specs.declared.category.Category.TheVariants as category
use Rattle.oxt_grammar.specs.declared.kind.Kind.{Kind}
use Rattle.oxt_grammar.specs.declared.kind.Kind.TheVariants as kind
use Rattle.oxt_ctx.specs.declared.hook.Hook.{Hook}
use Rattle.oxt_ctx.specs.declared.hook.Hook.TheVariants as hook

-- the hook is for nodes of the kind, where their place reaches it
abbrev pub wants : Hook → Kind → Bool
wants hook.EnterStatement k = kind_in category.Item k
wants hook.ExitStatement k = kind_in category.Item k
wants hook.EnterDeclaration k = kind_in category.Declaration k
wants hook.EnterExpression k = kind_in category.Expression k
wants hook.EnterSimpleAssignmentTarget k = kind_in category.SimpleAssignmentTarget k
wants hook.EnterAssignmentTarget k = kind_in category.AssignmentTarget k
wants hook.EnterChainElement k = kind_in category.ChainElement k
wants h k = true

-- the hooks that a node may reach by its place before its parts, in their order
abbrev pub at_place : Category → List Hook
at_place category.Statement = hook.EnterStatement ∷ hook.EnterDeclaration ∷ []
at_place category.Item = hook.EnterStatement ∷ hook.EnterDeclaration ∷ []
at_place category.Declaration = hook.EnterDeclaration ∷ []
at_place category.Expression = hook.EnterExpression ∷ []
at_place category.Argument = hook.EnterExpression ∷ []
at_place category.PropertyKey = hook.EnterExpression ∷ []
at_place category.ForStatementInit = hook.EnterExpression ∷ []
at_place category.ArrowFunctionBody = hook.EnterExpression ∷ []
at_place category.ExportDefaultDeclarationKind = hook.EnterExpression ∷ []
at_place category.JSXExpression = hook.EnterExpression ∷ []
at_place category.SimpleAssignmentTarget = hook.EnterSimpleAssignmentTarget ∷ []
at_place category.AssignmentTarget = hook.EnterAssignmentTarget ∷ hook.EnterSimpleAssignmentTarget ∷ []
at_place category.AssignmentTargetMaybeDefault = hook.EnterAssignmentTarget ∷ hook.EnterSimpleAssignmentTarget ∷ []
at_place category.ForStatementLeft = hook.EnterAssignmentTarget ∷ hook.EnterSimpleAssignmentTarget ∷ []
at_place category.ChainElement = hook.EnterChainElement ∷ []
at_place c = []

-- the hooks that a node reaches by its place after its parts
abbrev pub from_place : Category → List Hook
from_place category.Statement = hook.ExitStatement ∷ []
from_place category.Item = hook.ExitStatement ∷ []
from_place c = []

-- the hooks that a node reaches by its kind before its parts
unfoldable pub as_kind : Kind → List Hook
as_kind kind.ClassDeclaration = hook.EnterClass ∷ []
as_kind kind.ClassExpression = hook.EnterClass ∷ []
as_kind kind.MethodDefinition = hook.EnterMethodDefinition ∷ []
as_kind kind.TSAbstractMethodDefinition = hook.EnterMethodDefinition ∷ []
as_kind kind.AccessorProperty = hook.EnterAccessorProperty ∷ []
as_kind kind.TSAbstractAccessorProperty = hook.EnterAccessorProperty ∷ []
as_kind kind.PropertyDefinition = hook.EnterPropertyDefinition ∷ []
as_kind kind.TSAbstractPropertyDefinition = hook.EnterPropertyDefinition ∷ []
as_kind kind.FunctionDeclaration = hook.EnterFunction ∷ []
as_kind kind.FunctionExpression = hook.EnterFunction ∷ []
as_kind kind.TSDeclareFunction = hook.EnterFunction ∷ []
as_kind kind.TSEmptyBodyFunctionExpression = hook.EnterFunction ∷ []
as_kind kind.Decorator = hook.EnterDecorator ∷ []
as_kind kind.ArrowFunctionExpression = hook.EnterArrowFunctionExpression ∷ []
as_kind kind.VariableDeclaration = hook.EnterVariableDeclaration ∷ []
as_kind kind.VariableDeclarator = hook.EnterVariableDeclarator ∷ []
as_kind kind.CallExpression = hook.EnterCallExpression ∷ []
as_kind kind.NewExpression = hook.EnterNewExpression ∷ []
as_kind kind.TaggedTemplateExpression = hook.EnterTaggedTemplateExpression ∷ []
as_kind kind.ImportExpression = hook.EnterImportExpression ∷ []
as_kind kind.FormalParameter = hook.EnterFormalParameter ∷ []
as_kind kind.FormalParameterRest = hook.EnterFormalParameterRest ∷ []
as_kind kind.CatchParameter = hook.EnterCatchParameter ∷ []
as_kind kind.JSXOpeningElement = hook.EnterJsxOpeningElement ∷ []
as_kind kind.JSXElement = hook.EnterJsxElement ∷ []
as_kind kind.JSXFragment = hook.EnterJsxFragment ∷ []
as_kind kind.IfStatement = hook.EnterIfStatement ∷ []
as_kind kind.WhileStatement = hook.EnterWhileStatement ∷ []
as_kind kind.DoWhileStatement = hook.EnterDoWhileStatement ∷ []
as_kind kind.ForStatement = hook.EnterForStatement ∷ []
as_kind kind.ForInStatement = hook.EnterForInStatement ∷ []
as_kind kind.ForOfStatement = hook.EnterForOfStatement ∷ []
as_kind kind.ImportDeclaration = hook.EnterImportDeclaration ∷ []
as_kind kind.ExportAllDeclaration = hook.EnterExportAllDeclaration ∷ []
as_kind kind.ExportFromDeclaration = hook.EnterExportFromDeclaration ∷ []
as_kind k = []

-- the hooks that a node reaches by its kind after its parts, in their order
unfoldable pub as_left : Kind → List Hook
as_left kind.ClassDeclaration = hook.ExitClass ∷ hook.ExitClassAtEnd ∷ []
as_left kind.ClassExpression = hook.ExitClass ∷ hook.ExitClassAtEnd ∷ []
as_left kind.MethodDefinition = hook.ExitMethodDefinition ∷ []
as_left kind.TSAbstractMethodDefinition = hook.ExitMethodDefinition ∷ []
as_left kind.AccessorProperty = hook.ExitAccessorProperty ∷ []
as_left kind.TSAbstractAccessorProperty = hook.ExitAccessorProperty ∷ []
as_left kind.PropertyDefinition = hook.ExitPropertyDefinition ∷ []
as_left kind.TSAbstractPropertyDefinition = hook.ExitPropertyDefinition ∷ []
as_left kind.FunctionDeclaration = hook.ExitFunction ∷ []
as_left kind.FunctionExpression = hook.ExitFunction ∷ []
as_left kind.TSDeclareFunction = hook.ExitFunction ∷ []
as_left kind.TSEmptyBodyFunctionExpression = hook.ExitFunction ∷ []
as_left k = []
