-- Written by tools/grammar.py from grammar/grammar.txt.
use Rattle.std.specs.Prelude.{List, [], ◌∷◌, codes}
use Rattle.oxt_grammar.specs.Field.{Field, field}
use Rattle.oxt_grammar.specs.declared.kind.Kind.{Kind}
use Rattle.oxt_grammar.specs.declared.kind.Kind.TheVariants as kind
use Rattle.oxt_grammar.specs.declared.category.Category.TheVariants as Category
use Rattle.oxt_grammar.specs.declared.word.Words.TheVariants as Words
use Rattle.oxt_grammar.specs.declared.holds.Holds.TheVariants as Holds
use Rattle.oxt_grammar.specs.declared.holds.Presence.TheVariants as Presence

-- the same, behind the kinds of the parts before
abbrev pub row_of_4 : Kind → List Field
row_of_4 kind.TSTypeAnnotation =
    field (codes "typeAnnotation") (Holds.Node Category.TSType) Presence.Required ∷ []
row_of_4 kind.TSThisParameter =
    field (codes "typeAnnotation") (Holds.NodeOrNull Category.TSTypeAnnotation) Presence.TypeScript ∷ []
row_of_4 kind.TSTypeParameterDeclaration =
    field (codes "params") (Holds.List Category.TSTypeParameter) Presence.Required ∷ []
row_of_4 kind.TSTypeParameter =
    field (codes "name") (Holds.Node Category.BindingIdentifier) Presence.Required ∷ []
row_of_4 kind.TSTypeReference =
    field (codes "typeName") (Holds.Node Category.TSTypeName) Presence.Required ∷ []
row_of_4 kind.TSUnionType =
    field (codes "types") (Holds.List Category.TSType) Presence.Required ∷ []
row_of_4 kind.TSIntersectionType =
    field (codes "types") (Holds.List Category.TSType) Presence.Required ∷ []
row_of_4 kind.TSConditionalType =
    field (codes "trueType") (Holds.Node Category.TSType) Presence.Required ∷
    field (codes "falseType") (Holds.Node Category.TSType) Presence.Required ∷ []
row_of_4 kind.TSTypeOperator =
    field (codes "operator") (Holds.Word Words.TypeOperator) Presence.Required ∷
    field (codes "typeAnnotation") (Holds.Node Category.TSType) Presence.Required ∷ []
row_of_4 kind.TSParenthesizedType =
    field (codes "typeAnnotation") (Holds.Node Category.TSType) Presence.Required ∷ []
row_of_4 kind.JSDocNullableType =
    field (codes "typeAnnotation") (Holds.Node Category.TSType) Presence.Required ∷ []
row_of_4 kind.JSDocNonNullableType =
    field (codes "typeAnnotation") (Holds.Node Category.TSType) Presence.Required ∷ []
row_of_4 kind.TSTypePredicate =
    field (codes "asserts") Holds.Flag Presence.Optional ∷ []
row_of_4 kind.TSLiteralType =
    field (codes "literal") (Holds.Node Category.TSLiteral) Presence.Required ∷ []
row_of_4 kind.TSVoidKeyword = []
row_of_4 kind.TSUndefinedKeyword = []
row_of_4 kind.TSNullKeyword = []
row_of_4 kind.TSNeverKeyword = []
row_of_4 kind.TSBooleanKeyword = []
row_of_4 kind.TSStringKeyword = []
row_of_4 kind.TSNumberKeyword = []
row_of_4 kind.TSBigIntKeyword = []
row_of_4 kind.TSSymbolKeyword = []
row_of_4 kind.TSObjectKeyword = []
row_of_4 kind.TSAnyKeyword = []
row_of_4 kind.TSUnknownKeyword = []
row_of_4 kind.TSIntrinsicKeyword = []
row_of_4 kind.TSFunctionType = []
row_of_4 kind.TSConstructorType = []
row_of_4 kind.TSArrayType = []
row_of_4 kind.TSTupleType = []
row_of_4 kind.TSNamedTupleMember = []
row_of_4 kind.TSOptionalType = []
row_of_4 kind.TSRestType = []
row_of_4 kind.TSTemplateLiteralType = []
row_of_4 kind.TSTypeQuery = []
row_of_4 kind.TSIndexedAccessType = []
row_of_4 kind.TSMappedType = []
row_of_4 kind.TSTypeLiteral = []
row_of_4 kind.TSThisType = []
row_of_4 kind.TSImportType = []
row_of_4 kind.TSInferType = []
row_of_4 kind.JSDocUnknownType = []
row_of_4 kind.TSTypeParameterInstantiation = []
row_of_4 kind.TSClassImplements = []
row_of_4 kind.TSIndexSignature = []
row_of_4 k = []

-- the same, behind the kinds of the parts before
abbrev pub row_of_3 : Kind → List Field
row_of_3 kind.AwaitExpression =
    field (codes "argument") (Holds.Node Category.Expression) Presence.Required ∷ []
row_of_3 kind.YieldExpression =
    field (codes "delegate") Holds.Flag Presence.Optional ∷
    field (codes "argument") (Holds.NodeOrNull Category.Expression) Presence.Optional ∷ []
row_of_3 kind.TSAsExpression =
    field (codes "expression") (Holds.Node Category.Expression) Presence.Required ∷
    field (codes "typeAnnotation") (Holds.Node Category.TSType) Presence.Required ∷ []
row_of_3 kind.TSSatisfiesExpression =
    field (codes "expression") (Holds.Node Category.Expression) Presence.Required ∷
    field (codes "typeAnnotation") (Holds.Node Category.TSType) Presence.Required ∷ []
row_of_3 kind.TSTypeAssertion =
    field (codes "expression") (Holds.Node Category.Expression) Presence.Required ∷
    field (codes "typeAnnotation") (Holds.Node Category.TSType) Presence.Required ∷ []
row_of_3 kind.TSNonNullExpression =
    field (codes "expression") (Holds.Node Category.Expression) Presence.Required ∷ []
row_of_3 kind.TSInstantiationExpression =
    field (codes "expression") (Holds.Node Category.Expression) Presence.Required ∷
    field (codes "typeArguments") (Holds.Node Category.TSTypeParameterInstantiation) Presence.Required ∷ []
row_of_3 kind.JSXElement =
    field (codes "openingElement") (Holds.Node Category.JSXOpeningElement) Presence.Required ∷
    field (codes "children") (Holds.List Category.JSXChild) Presence.Optional ∷
    field (codes "closingElement") (Holds.NodeOrNull Category.JSXClosingElement) Presence.Optional ∷ []
row_of_3 kind.JSXFragment =
    field (codes "children") (Holds.List Category.JSXChild) Presence.Optional ∷ []
row_of_3 kind.JSXOpeningElement =
    field (codes "name") (Holds.Node Category.JSXElementName) Presence.Required ∷
    field (codes "typeArguments") (Holds.NodeOrNull Category.TSTypeParameterInstantiation) Presence.TypeScript ∷
    field (codes "attributes") (Holds.List Category.JSXAttributeItem) Presence.Optional ∷ []
row_of_3 kind.JSXClosingElement =
    field (codes "name") (Holds.Node Category.JSXElementName) Presence.Required ∷ []
row_of_3 kind.JSXIdentifier =
    field (codes "name") Holds.Text Presence.Required ∷ []
row_of_3 kind.JSXNamespacedName =
    field (codes "namespace") Holds.Text Presence.Required ∷
    field (codes "name") Holds.Text Presence.Required ∷ []
row_of_3 kind.JSXMemberExpression =
    field (codes "object") (Holds.Node Category.JSXElementName) Presence.Required ∷
    field (codes "property") Holds.Text Presence.Required ∷ []
row_of_3 kind.JSXAttribute =
    field (codes "name") (Holds.Node Category.JSXAttributeName) Presence.Required ∷
    field (codes "value") (Holds.NodeOrNull Category.JSXAttributeValue) Presence.Optional ∷ []
row_of_3 kind.JSXSpreadAttribute =
    field (codes "argument") (Holds.Node Category.Expression) Presence.Required ∷ []
row_of_3 kind.JSXExpressionContainer =
    field (codes "expression") (Holds.Node Category.JSXExpression) Presence.Required ∷ []
row_of_3 kind.JSXEmptyExpression = []
row_of_3 kind.JSXSpreadChild =
    field (codes "expression") (Holds.Node Category.Expression) Presence.Required ∷ []
row_of_3 kind.JSXText =
    field (codes "value") Holds.Text Presence.Required ∷ []
row_of_3 kind.ImportDeclaration =
    field (codes "importKind") (Holds.Word Words.TypeOrValue) Presence.TypeScript ∷
    field (codes "phase") (Holds.WordOrNull Words.Phase) Presence.Optional ∷
    field (codes "specifiers") (Holds.ListOrNull Category.ImportDeclarationSpecifier) Presence.Optional ∷
    field (codes "source") (Holds.Node Category.StringLiteral) Presence.Required ∷
    field (codes "withClause") (Holds.NodeOrNull Category.WithClause) Presence.Optional ∷ []
row_of_3 kind.ImportSpecifier =
    field (codes "importKind") (Holds.Word Words.TypeOrValue) Presence.TypeScript ∷
    field (codes "imported") (Holds.Node Category.ModuleExportName) Presence.Required ∷
    field (codes "local") (Holds.Node Category.BindingIdentifier) Presence.Required ∷ []
row_of_3 kind.ImportDefaultSpecifier =
    field (codes "local") (Holds.Node Category.BindingIdentifier) Presence.Required ∷ []
row_of_3 kind.ImportNamespaceSpecifier =
    field (codes "local") (Holds.Node Category.BindingIdentifier) Presence.Required ∷ []
row_of_3 kind.WithClause =
    field (codes "entries") (Holds.List Category.ImportAttribute) Presence.Optional ∷ []
row_of_3 kind.ImportAttribute =
    field (codes "key") (Holds.Node Category.ImportAttributeKey) Presence.Required ∷
    field (codes "value") (Holds.Node Category.StringLiteral) Presence.Required ∷ []
row_of_3 kind.ExportDeclaration =
    field (codes "declaration") (Holds.Node Category.Declaration) Presence.Required ∷ []
row_of_3 kind.ExportNamedDeclaration =
    field (codes "exportKind") (Holds.Word Words.TypeOrValue) Presence.TypeScript ∷
    field (codes "specifiers") (Holds.List Category.ExportSpecifier) Presence.Optional ∷ []
row_of_3 kind.ExportFromDeclaration =
    field (codes "exportKind") (Holds.Word Words.TypeOrValue) Presence.TypeScript ∷
    field (codes "specifiers") (Holds.List Category.ExportSpecifier) Presence.Optional ∷
    field (codes "source") (Holds.Node Category.StringLiteral) Presence.Required ∷
    field (codes "withClause") (Holds.NodeOrNull Category.WithClause) Presence.Optional ∷ []
row_of_3 kind.ExportAllDeclaration =
    field (codes "exportKind") (Holds.Word Words.TypeOrValue) Presence.TypeScript ∷
    field (codes "exported") (Holds.NodeOrNull Category.ModuleExportName) Presence.Optional ∷
    field (codes "source") (Holds.Node Category.StringLiteral) Presence.Required ∷
    field (codes "withClause") (Holds.NodeOrNull Category.WithClause) Presence.Optional ∷ []
row_of_3 kind.ExportDefaultDeclaration =
    field (codes "declaration") (Holds.Node Category.ExportDefaultDeclarationKind) Presence.Required ∷ []
row_of_3 kind.ExportSpecifier =
    field (codes "exportKind") (Holds.Word Words.TypeOrValue) Presence.TypeScript ∷
    field (codes "local") (Holds.Narrowed Category.ModuleExportName Category.IdentifierReference) Presence.Required ∷
    field (codes "exported") (Holds.Node Category.ModuleExportName) Presence.Required ∷ []
row_of_3 kind.TSExportAssignment =
    field (codes "expression") (Holds.Node Category.Expression) Presence.Required ∷ []
row_of_3 kind.TSNamespaceExportDeclaration =
    field (codes "id") (Holds.Node Category.IdentifierName) Presence.Required ∷ []
row_of_3 kind.TSTypeAliasDeclaration =
    field (codes "id") (Holds.Node Category.BindingIdentifier) Presence.Required ∷
    field (codes "declare") Holds.Flag Presence.TypeScript ∷ []
row_of_3 kind.TSInterfaceDeclaration =
    field (codes "id") (Holds.Node Category.BindingIdentifier) Presence.Required ∷
    field (codes "declare") Holds.Flag Presence.TypeScript ∷ []
row_of_3 kind.TSEnumDeclaration =
    field (codes "id") (Holds.Node Category.BindingIdentifier) Presence.Required ∷
    field (codes "const") Holds.Flag Presence.Optional ∷
    field (codes "declare") Holds.Flag Presence.TypeScript ∷
    field (codes "body") (Holds.Node Category.TSEnumBody) Presence.Required ∷ []
row_of_3 kind.TSEnumBody =
    field (codes "members") (Holds.List Category.TSEnumMember) Presence.Required ∷ []
row_of_3 kind.TSEnumMember =
    field (codes "id") (Holds.Node Category.TSEnumMemberName) Presence.Required ∷
    field (codes "computed") Holds.Flag Presence.Optional ∷
    field (codes "initializer") (Holds.NodeOrNull Category.Expression) Presence.Optional ∷ []
row_of_3 kind.TSNamespaceDeclaration =
    field (codes "id") (Holds.Node Category.BindingIdentifier) Presence.Required ∷
    field (codes "kind") (Holds.Word Words.NamespaceKind) Presence.Optional ∷
    field (codes "declare") Holds.Flag Presence.TypeScript ∷
    field (codes "body") (Holds.Node Category.TSNamespaceDeclarationBody) Presence.Required ∷ []
row_of_3 kind.TSModuleBlock =
    field (codes "directives") (Holds.List Category.Directive) Presence.Optional ∷
    field (codes "body") (Holds.List Category.Item) Presence.Required ∷ []
row_of_3 kind.TSExternalModuleDeclaration =
    field (codes "id") (Holds.Node Category.StringLiteral) Presence.Required ∷
    field (codes "declare") Holds.Flag Presence.TypeScript ∷
    field (codes "body") (Holds.NodeOrNull Category.TSModuleBlock) Presence.Optional ∷ []
row_of_3 kind.TSGlobalDeclaration =
    field (codes "declare") Holds.Flag Presence.TypeScript ∷
    field (codes "body") (Holds.Node Category.TSModuleBlock) Presence.Required ∷ []
row_of_3 kind.TSImportEqualsDeclaration =
    field (codes "importKind") (Holds.Word Words.TypeOrValue) Presence.TypeScript ∷
    field (codes "id") (Holds.Node Category.BindingIdentifier) Presence.Required ∷
    field (codes "moduleReference") (Holds.Node Category.TSModuleReference) Presence.Required ∷ []
row_of_3 kind.TSExternalModuleReference =
    field (codes "expression") (Holds.Node Category.StringLiteral) Presence.Required ∷ []
row_of_3 kind.TSQualifiedName =
    field (codes "left") (Holds.Node Category.TSTypeName) Presence.Required ∷
    field (codes "right") (Holds.Node Category.IdentifierName) Presence.Required ∷ []
row_of_3 k = row_of_4 k

-- the same, behind the kinds of the parts before
abbrev pub row_of_2 : Kind → List Field
row_of_2 kind.IdentifierReference =
    field (codes "name") Holds.Text Presence.Required ∷ []
row_of_2 kind.IdentifierName =
    field (codes "name") Holds.Text Presence.Required ∷ []
row_of_2 kind.PrivateIdentifier =
    field (codes "name") Holds.Text Presence.Required ∷ []
row_of_2 kind.ObjectPattern =
    field (codes "properties") (Holds.List Category.BindingProperty) Presence.Required ∷
    field (codes "rest") (Holds.NodeOrNull Category.BindingRestElement) Presence.Optional ∷ []
row_of_2 kind.ArrayPattern =
    field (codes "elements") (Holds.ListOfNullable Category.Pattern) Presence.Required ∷
    field (codes "rest") (Holds.NodeOrNull Category.BindingRestElement) Presence.Optional ∷ []
row_of_2 kind.BindingProperty =
    field (codes "key") (Holds.Node Category.PropertyKey) Presence.Required ∷
    field (codes "computed") Holds.Flag Presence.Optional ∷
    field (codes "shorthand") Holds.Flag Presence.Optional ∷
    field (codes "value") (Holds.Node Category.Pattern) Presence.Required ∷ []
row_of_2 kind.BindingRestElement =
    field (codes "argument") (Holds.Node Category.Pattern) Presence.Required ∷ []
row_of_2 kind.AssignmentPattern =
    field (codes "left") (Holds.Node Category.Pattern) Presence.Required ∷
    field (codes "right") (Holds.Node Category.Expression) Presence.Required ∷ []
row_of_2 kind.ArrayAssignmentTarget =
    field (codes "elements") (Holds.ListOfNullable Category.AssignmentTargetMaybeDefault) Presence.Required ∷
    field (codes "rest") (Holds.NodeOrNull Category.AssignmentTargetRest) Presence.Optional ∷ []
row_of_2 kind.ObjectAssignmentTarget =
    field (codes "properties") (Holds.List Category.AssignmentTargetProperty) Presence.Required ∷
    field (codes "rest") (Holds.NodeOrNull Category.AssignmentTargetRest) Presence.Optional ∷ []
row_of_2 kind.AssignmentTargetPropertyIdentifier =
    field (codes "binding") (Holds.Node Category.IdentifierReference) Presence.Required ∷
    field (codes "init") (Holds.NodeOrNull Category.Expression) Presence.Optional ∷ []
row_of_2 kind.AssignmentTargetPropertyProperty =
    field (codes "name") (Holds.Node Category.PropertyKey) Presence.Required ∷
    field (codes "computed") Holds.Flag Presence.Optional ∷
    field (codes "binding") (Holds.Node Category.AssignmentTargetMaybeDefault) Presence.Required ∷ []
row_of_2 kind.AssignmentTargetRest =
    field (codes "target") (Holds.Node Category.AssignmentTarget) Presence.Required ∷ []
row_of_2 kind.AssignmentTargetWithDefault =
    field (codes "binding") (Holds.Node Category.AssignmentTarget) Presence.Required ∷
    field (codes "init") (Holds.Node Category.Expression) Presence.Required ∷ []
row_of_2 kind.BooleanLiteral =
    field (codes "value") Holds.Flag Presence.Required ∷ []
row_of_2 kind.NullLiteral = []
row_of_2 kind.ThisExpression = []
row_of_2 kind.Super = []
row_of_2 kind.NumericLiteral =
    field (codes "value") Holds.WholeOrNull Presence.Optional ∷
    field (codes "raw") Holds.TextOrNull Presence.Optional ∷ []
row_of_2 kind.StringLiteral =
    field (codes "value") Holds.Text Presence.Required ∷
    field (codes "raw") Holds.TextOrNull Presence.Optional ∷ []
row_of_2 kind.BigIntLiteral =
    field (codes "raw") Holds.Text Presence.Required ∷ []
row_of_2 kind.RegExpLiteral =
    field (codes "pattern") Holds.Text Presence.Required ∷
    field (codes "flags") Holds.Text Presence.Required ∷ []
row_of_2 kind.MetaProperty =
    field (codes "meta") Holds.Text Presence.Required ∷
    field (codes "property") Holds.Text Presence.Required ∷ []
row_of_2 kind.TemplateLiteral =
    field (codes "quasis") (Holds.List Category.TemplateElement) Presence.Required ∷
    field (codes "expressions") (Holds.List Category.Expression) Presence.Optional ∷ []
row_of_2 kind.TemplateElement =
    field (codes "raw") Holds.Text Presence.Required ∷
    field (codes "cooked") Holds.TextOrNull Presence.Optional ∷ []
row_of_2 kind.TaggedTemplateExpression =
    field (codes "tag") (Holds.Node Category.Expression) Presence.Required ∷
    field (codes "typeArguments") (Holds.NodeOrNull Category.TSTypeParameterInstantiation) Presence.TypeScript ∷
    field (codes "quasi") (Holds.Node Category.TemplateLiteral) Presence.Required ∷ []
row_of_2 kind.ArrayExpression =
    field (codes "elements") (Holds.ListOfNullable Category.Argument) Presence.Required ∷ []
row_of_2 kind.ObjectExpression =
    field (codes "properties") (Holds.List Category.ObjectPropertyKind) Presence.Required ∷ []
row_of_2 kind.SpreadElement =
    field (codes "argument") (Holds.Node Category.Expression) Presence.Required ∷ []
row_of_2 kind.ObjectProperty =
    field (codes "kind") (Holds.Word Words.PropertyKind) Presence.Optional ∷
    field (codes "key") (Holds.Node Category.PropertyKey) Presence.Required ∷
    field (codes "computed") Holds.Flag Presence.Optional ∷
    field (codes "method") Holds.Flag Presence.Optional ∷
    field (codes "shorthand") Holds.Flag Presence.Optional ∷
    field (codes "value") (Holds.Node Category.Expression) Presence.Required ∷ []
row_of_2 kind.AssignmentExpression =
    field (codes "operator") Holds.Text Presence.Required ∷
    field (codes "left") (Holds.Node Category.AssignmentTarget) Presence.Required ∷
    field (codes "right") (Holds.Node Category.Expression) Presence.Required ∷ []
row_of_2 kind.BinaryExpression =
    field (codes "operator") Holds.Text Presence.Required ∷
    field (codes "left") (Holds.Node Category.Expression) Presence.Required ∷
    field (codes "right") (Holds.Node Category.Expression) Presence.Required ∷ []
row_of_2 kind.LogicalExpression =
    field (codes "operator") Holds.Text Presence.Required ∷
    field (codes "left") (Holds.Node Category.Expression) Presence.Required ∷
    field (codes "right") (Holds.Node Category.Expression) Presence.Required ∷ []
row_of_2 kind.UnaryExpression =
    field (codes "operator") Holds.Text Presence.Required ∷
    field (codes "argument") (Holds.Node Category.Expression) Presence.Required ∷ []
row_of_2 kind.UpdateExpression =
    field (codes "operator") (Holds.Word Words.UpdateOperator) Presence.Required ∷
    field (codes "prefix") Holds.Flag Presence.Optional ∷
    field (codes "argument") (Holds.Node Category.SimpleAssignmentTarget) Presence.Required ∷ []
row_of_2 kind.ConditionalExpression =
    field (codes "test") (Holds.Node Category.Expression) Presence.Required ∷
    field (codes "consequent") (Holds.Node Category.Expression) Presence.Required ∷
    field (codes "alternate") (Holds.Node Category.Expression) Presence.Required ∷ []
row_of_2 kind.SequenceExpression =
    field (codes "expressions") (Holds.List Category.Expression) Presence.Required ∷ []
row_of_2 kind.ParenthesizedExpression =
    field (codes "expression") (Holds.Node Category.Expression) Presence.Required ∷ []
row_of_2 kind.CallExpression =
    field (codes "callee") (Holds.Node Category.Expression) Presence.Required ∷
    field (codes "typeArguments") (Holds.NodeOrNull Category.TSTypeParameterInstantiation) Presence.TypeScript ∷
    field (codes "arguments") (Holds.List Category.Argument) Presence.Required ∷
    field (codes "optional") Holds.Flag Presence.Optional ∷
    field (codes "pure") Holds.Flag Presence.Optional ∷ []
row_of_2 kind.NewExpression =
    field (codes "callee") (Holds.Node Category.Expression) Presence.Required ∷
    field (codes "typeArguments") (Holds.NodeOrNull Category.TSTypeParameterInstantiation) Presence.TypeScript ∷
    field (codes "arguments") (Holds.List Category.Argument) Presence.Required ∷
    field (codes "pure") Holds.Flag Presence.Optional ∷ []
row_of_2 kind.ImportExpression =
    field (codes "source") (Holds.Node Category.Expression) Presence.Required ∷
    field (codes "options") (Holds.NodeOrNull Category.Expression) Presence.Optional ∷ []
row_of_2 kind.StaticMemberExpression =
    field (codes "object") (Holds.Node Category.Expression) Presence.Required ∷
    field (codes "property") (Holds.Node Category.IdentifierName) Presence.Required ∷
    field (codes "optional") Holds.Flag Presence.Optional ∷ []
row_of_2 kind.ComputedMemberExpression =
    field (codes "object") (Holds.Node Category.Expression) Presence.Required ∷
    field (codes "expression") (Holds.Node Category.Expression) Presence.Required ∷
    field (codes "optional") Holds.Flag Presence.Optional ∷ []
row_of_2 kind.PrivateFieldExpression =
    field (codes "object") (Holds.Node Category.Expression) Presence.Required ∷
    field (codes "field") (Holds.Node Category.PrivateIdentifier) Presence.Required ∷
    field (codes "optional") Holds.Flag Presence.Optional ∷ []
row_of_2 kind.PrivateInExpression =
    field (codes "left") (Holds.Node Category.PrivateIdentifier) Presence.Required ∷
    field (codes "right") (Holds.Node Category.Expression) Presence.Required ∷ []
row_of_2 kind.ChainExpression =
    field (codes "expression") (Holds.Node Category.ChainElement) Presence.Required ∷ []
row_of_2 k = row_of_3 k

-- the fields of a node of a kind, in the order in which they are checked
unfoldable pub row_of : Kind → List Field
row_of kind.Program =
    field (codes "sourceType") (Holds.Word Words.SourceType) Presence.Optional ∷
    field (codes "lang") (Holds.Word Words.Lang) Presence.Optional ∷
    field (codes "hashbang") Holds.TextOrNull Presence.Optional ∷
    field (codes "directives") (Holds.List Category.Directive) Presence.Optional ∷
    field (codes "body") (Holds.List Category.Item) Presence.Required ∷ []
row_of kind.Directive =
    field (codes "value") Holds.Text Presence.Required ∷ []
row_of kind.ExpressionStatement =
    field (codes "expression") (Holds.Node Category.Expression) Presence.Required ∷ []
row_of kind.BlockStatement =
    field (codes "body") (Holds.List Category.Statement) Presence.Required ∷ []
row_of kind.EmptyStatement = []
row_of kind.DebuggerStatement = []
row_of kind.IfStatement =
    field (codes "test") (Holds.Node Category.Expression) Presence.Required ∷
    field (codes "consequent") (Holds.Node Category.Statement) Presence.Required ∷
    field (codes "alternate") (Holds.NodeOrNull Category.Statement) Presence.Optional ∷ []
row_of kind.ForStatement =
    field (codes "init") (Holds.NodeOrNull Category.ForStatementInit) Presence.Optional ∷
    field (codes "test") (Holds.NodeOrNull Category.Expression) Presence.Optional ∷
    field (codes "update") (Holds.NodeOrNull Category.Expression) Presence.Optional ∷
    field (codes "body") (Holds.Node Category.Statement) Presence.Required ∷ []
row_of kind.ForInStatement =
    field (codes "left") (Holds.Node Category.ForStatementLeft) Presence.Required ∷
    field (codes "right") (Holds.Node Category.Expression) Presence.Required ∷
    field (codes "body") (Holds.Node Category.Statement) Presence.Required ∷ []
row_of kind.ForOfStatement =
    field (codes "await") Holds.Flag Presence.Optional ∷
    field (codes "left") (Holds.Node Category.ForStatementLeft) Presence.Required ∷
    field (codes "right") (Holds.Node Category.Expression) Presence.Required ∷
    field (codes "body") (Holds.Node Category.Statement) Presence.Required ∷ []
row_of kind.WhileStatement =
    field (codes "test") (Holds.Node Category.Expression) Presence.Required ∷
    field (codes "body") (Holds.Node Category.Statement) Presence.Required ∷ []
row_of kind.DoWhileStatement =
    field (codes "body") (Holds.Node Category.Statement) Presence.Required ∷
    field (codes "test") (Holds.Node Category.Expression) Presence.Required ∷ []
row_of kind.ReturnStatement =
    field (codes "argument") (Holds.NodeOrNull Category.Expression) Presence.Optional ∷ []
row_of kind.ThrowStatement =
    field (codes "argument") (Holds.Node Category.Expression) Presence.Required ∷ []
row_of kind.BreakStatement =
    field (codes "label") Holds.TextOrNull Presence.Optional ∷ []
row_of kind.ContinueStatement =
    field (codes "label") Holds.TextOrNull Presence.Optional ∷ []
row_of kind.LabeledStatement =
    field (codes "label") Holds.Text Presence.Required ∷
    field (codes "body") (Holds.Node Category.Statement) Presence.Required ∷ []
row_of kind.WithStatement =
    field (codes "object") (Holds.Node Category.Expression) Presence.Required ∷
    field (codes "body") (Holds.Node Category.Statement) Presence.Required ∷ []
row_of kind.SwitchStatement =
    field (codes "discriminant") (Holds.Node Category.Expression) Presence.Required ∷
    field (codes "cases") (Holds.List Category.SwitchCase) Presence.Required ∷ []
row_of kind.SwitchCase =
    field (codes "test") (Holds.NodeOrNull Category.Expression) Presence.Optional ∷
    field (codes "consequent") (Holds.List Category.Statement) Presence.Optional ∷ []
row_of kind.TryStatement =
    field (codes "block") (Holds.Node Category.BlockStatement) Presence.Required ∷
    field (codes "handler") (Holds.NodeOrNull Category.CatchClause) Presence.Optional ∷
    field (codes "finalizer") (Holds.NodeOrNull Category.BlockStatement) Presence.Optional ∷ []
row_of kind.CatchClause =
    field (codes "param") (Holds.NodeOrNull Category.CatchParameter) Presence.Optional ∷
    field (codes "body") (Holds.Node Category.BlockStatement) Presence.Required ∷ []
row_of kind.CatchParameter =
    field (codes "pattern") (Holds.Node Category.Pattern) Presence.Required ∷
    field (codes "typeAnnotation") (Holds.NodeOrNull Category.TSTypeAnnotation) Presence.TypeScript ∷ []
row_of kind.VariableDeclaration =
    field (codes "kind") (Holds.Word Words.VariableKind) Presence.Required ∷
    field (codes "declarations") (Holds.List Category.VariableDeclarator) Presence.Required ∷
    field (codes "declare") Holds.Flag Presence.TypeScript ∷ []
row_of kind.VariableDeclarator =
    field (codes "id") (Holds.Node Category.Pattern) Presence.Required ∷
    field (codes "typeAnnotation") (Holds.NodeOrNull Category.TSTypeAnnotation) Presence.TypeScript ∷
    field (codes "definite") Holds.Flag Presence.TypeScript ∷
    field (codes "init") (Holds.NodeOrNull Category.Expression) Presence.Optional ∷ []
row_of kind.FunctionDeclaration =
    field (codes "id") (Holds.NodeOrNull Category.BindingIdentifier) Presence.Optional ∷
    field (codes "async") Holds.Flag Presence.Optional ∷
    field (codes "generator") Holds.Flag Presence.Optional ∷
    field (codes "declare") Holds.Flag Presence.TypeScript ∷
    field (codes "typeParameters") (Holds.NodeOrNull Category.TSTypeParameterDeclaration) Presence.TypeScript ∷
    field (codes "thisParam") (Holds.NodeOrNull Category.TSThisParameter) Presence.TypeScript ∷
    field (codes "params") (Holds.Node Category.FormalParameters) Presence.Required ∷
    field (codes "returnType") (Holds.NodeOrNull Category.TSTypeAnnotation) Presence.TypeScript ∷
    field (codes "body") (Holds.Node Category.FunctionBody) Presence.Required ∷ []
row_of kind.FunctionExpression =
    field (codes "id") (Holds.NodeOrNull Category.BindingIdentifier) Presence.Optional ∷
    field (codes "async") Holds.Flag Presence.Optional ∷
    field (codes "generator") Holds.Flag Presence.Optional ∷
    field (codes "declare") Holds.Flag Presence.TypeScript ∷
    field (codes "typeParameters") (Holds.NodeOrNull Category.TSTypeParameterDeclaration) Presence.TypeScript ∷
    field (codes "thisParam") (Holds.NodeOrNull Category.TSThisParameter) Presence.TypeScript ∷
    field (codes "params") (Holds.Node Category.FormalParameters) Presence.Required ∷
    field (codes "returnType") (Holds.NodeOrNull Category.TSTypeAnnotation) Presence.TypeScript ∷
    field (codes "body") (Holds.Node Category.FunctionBody) Presence.Required ∷ []
row_of kind.TSDeclareFunction =
    field (codes "id") (Holds.NodeOrNull Category.BindingIdentifier) Presence.Optional ∷
    field (codes "async") Holds.Flag Presence.Optional ∷
    field (codes "generator") Holds.Flag Presence.Optional ∷
    field (codes "declare") Holds.Flag Presence.TypeScript ∷
    field (codes "typeParameters") (Holds.NodeOrNull Category.TSTypeParameterDeclaration) Presence.TypeScript ∷
    field (codes "thisParam") (Holds.NodeOrNull Category.TSThisParameter) Presence.TypeScript ∷
    field (codes "params") (Holds.Node Category.FormalParameters) Presence.Required ∷
    field (codes "returnType") (Holds.NodeOrNull Category.TSTypeAnnotation) Presence.TypeScript ∷ []
row_of kind.TSEmptyBodyFunctionExpression =
    field (codes "id") (Holds.NodeOrNull Category.BindingIdentifier) Presence.Optional ∷
    field (codes "async") Holds.Flag Presence.Optional ∷
    field (codes "generator") Holds.Flag Presence.Optional ∷
    field (codes "declare") Holds.Flag Presence.TypeScript ∷
    field (codes "typeParameters") (Holds.NodeOrNull Category.TSTypeParameterDeclaration) Presence.TypeScript ∷
    field (codes "thisParam") (Holds.NodeOrNull Category.TSThisParameter) Presence.TypeScript ∷
    field (codes "params") (Holds.Node Category.FormalParameters) Presence.Required ∷
    field (codes "returnType") (Holds.NodeOrNull Category.TSTypeAnnotation) Presence.TypeScript ∷ []
row_of kind.FormalParameters =
    field (codes "items") (Holds.List Category.FormalParameter) Presence.Required ∷
    field (codes "rest") (Holds.NodeOrNull Category.FormalParameterRest) Presence.Optional ∷ []
row_of kind.FormalParameter =
    field (codes "decorators") (Holds.List Category.Decorator) Presence.Optional ∷
    field (codes "accessibility") (Holds.WordOrNull Words.Accessibility) Presence.TypeScript ∷
    field (codes "readonly") Holds.Flag Presence.TypeScript ∷
    field (codes "override") Holds.Flag Presence.TypeScript ∷
    field (codes "optional") Holds.Flag Presence.TypeScript ∷
    field (codes "pattern") (Holds.Node Category.Pattern) Presence.Required ∷
    field (codes "typeAnnotation") (Holds.NodeOrNull Category.TSTypeAnnotation) Presence.TypeScript ∷
    field (codes "initializer") (Holds.NodeOrNull Category.Expression) Presence.Optional ∷ []
row_of kind.FormalParameterRest =
    field (codes "pattern") (Holds.Node Category.Pattern) Presence.Required ∷
    field (codes "typeAnnotation") (Holds.NodeOrNull Category.TSTypeAnnotation) Presence.TypeScript ∷ []
row_of kind.FunctionBody =
    field (codes "directives") (Holds.List Category.Directive) Presence.Optional ∷
    field (codes "statements") (Holds.List Category.Statement) Presence.Required ∷ []
row_of kind.ArrowFunctionExpression =
    field (codes "async") Holds.Flag Presence.Optional ∷
    field (codes "typeParameters") (Holds.NodeOrNull Category.TSTypeParameterDeclaration) Presence.TypeScript ∷
    field (codes "params") (Holds.Node Category.FormalParameters) Presence.Required ∷
    field (codes "returnType") (Holds.NodeOrNull Category.TSTypeAnnotation) Presence.TypeScript ∷
    field (codes "body") (Holds.Node Category.ArrowFunctionBody) Presence.Required ∷ []
row_of kind.ClassDeclaration =
    field (codes "decorators") (Holds.List Category.Decorator) Presence.Optional ∷
    field (codes "id") (Holds.NodeOrNull Category.BindingIdentifier) Presence.Optional ∷
    field (codes "typeParameters") (Holds.NodeOrNull Category.TSTypeParameterDeclaration) Presence.TypeScript ∷
    field (codes "superClass") (Holds.NodeOrNull Category.Expression) Presence.Optional ∷
    field (codes "superTypeArguments") (Holds.NodeOrNull Category.TSTypeParameterInstantiation) Presence.TypeScript ∷
    field (codes "implements") (Holds.List Category.TSClassImplements) Presence.TypeScript ∷
    field (codes "abstract") Holds.Flag Presence.TypeScript ∷
    field (codes "declare") Holds.Flag Presence.TypeScript ∷
    field (codes "body") (Holds.Node Category.ClassBody) Presence.Required ∷ []
row_of kind.ClassExpression =
    field (codes "decorators") (Holds.List Category.Decorator) Presence.Optional ∷
    field (codes "id") (Holds.NodeOrNull Category.BindingIdentifier) Presence.Optional ∷
    field (codes "typeParameters") (Holds.NodeOrNull Category.TSTypeParameterDeclaration) Presence.TypeScript ∷
    field (codes "superClass") (Holds.NodeOrNull Category.Expression) Presence.Optional ∷
    field (codes "superTypeArguments") (Holds.NodeOrNull Category.TSTypeParameterInstantiation) Presence.TypeScript ∷
    field (codes "implements") (Holds.List Category.TSClassImplements) Presence.TypeScript ∷
    field (codes "abstract") Holds.Flag Presence.TypeScript ∷
    field (codes "declare") Holds.Flag Presence.TypeScript ∷
    field (codes "body") (Holds.Node Category.ClassBody) Presence.Required ∷ []
row_of kind.ClassBody =
    field (codes "body") (Holds.List Category.ClassElement) Presence.Required ∷ []
row_of kind.MethodDefinition =
    field (codes "decorators") (Holds.List Category.Decorator) Presence.Optional ∷
    field (codes "key") (Holds.Node Category.PropertyKey) Presence.Required ∷
    field (codes "computed") Holds.Flag Presence.Optional ∷
    field (codes "kind") (Holds.Word Words.MethodKind) Presence.Optional ∷
    field (codes "static") Holds.Flag Presence.Optional ∷
    field (codes "override") Holds.Flag Presence.TypeScript ∷
    field (codes "optional") Holds.Flag Presence.TypeScript ∷
    field (codes "accessibility") (Holds.WordOrNull Words.Accessibility) Presence.TypeScript ∷
    field (codes "value") (Holds.Node Category.MethodValue) Presence.Required ∷ []
row_of kind.TSAbstractMethodDefinition =
    field (codes "decorators") (Holds.List Category.Decorator) Presence.Optional ∷
    field (codes "key") (Holds.Node Category.PropertyKey) Presence.Required ∷
    field (codes "computed") Holds.Flag Presence.Optional ∷
    field (codes "kind") (Holds.Word Words.MethodKind) Presence.Optional ∷
    field (codes "static") Holds.Flag Presence.Optional ∷
    field (codes "override") Holds.Flag Presence.TypeScript ∷
    field (codes "optional") Holds.Flag Presence.Optional ∷
    field (codes "accessibility") (Holds.WordOrNull Words.Accessibility) Presence.TypeScript ∷
    field (codes "value") (Holds.Node Category.MethodValue) Presence.Required ∷ []
row_of kind.PropertyDefinition =
    field (codes "decorators") (Holds.List Category.Decorator) Presence.Optional ∷
    field (codes "key") (Holds.Node Category.PropertyKey) Presence.Required ∷
    field (codes "computed") Holds.Flag Presence.Optional ∷
    field (codes "static") Holds.Flag Presence.Optional ∷
    field (codes "declare") Holds.Flag Presence.TypeScript ∷
    field (codes "override") Holds.Flag Presence.TypeScript ∷
    field (codes "optional") Holds.Flag Presence.TypeScript ∷
    field (codes "definite") Holds.Flag Presence.TypeScript ∷
    field (codes "readonly") Holds.Flag Presence.TypeScript ∷
    field (codes "accessibility") (Holds.WordOrNull Words.Accessibility) Presence.TypeScript ∷
    field (codes "typeAnnotation") (Holds.NodeOrNull Category.TSTypeAnnotation) Presence.TypeScript ∷
    field (codes "value") (Holds.NodeOrNull Category.Expression) Presence.Optional ∷ []
row_of kind.TSAbstractPropertyDefinition =
    field (codes "decorators") (Holds.List Category.Decorator) Presence.Optional ∷
    field (codes "key") (Holds.Node Category.PropertyKey) Presence.Required ∷
    field (codes "computed") Holds.Flag Presence.Optional ∷
    field (codes "static") Holds.Flag Presence.Optional ∷
    field (codes "declare") Holds.Flag Presence.TypeScript ∷
    field (codes "override") Holds.Flag Presence.TypeScript ∷
    field (codes "optional") Holds.Flag Presence.Optional ∷
    field (codes "definite") Holds.Flag Presence.TypeScript ∷
    field (codes "readonly") Holds.Flag Presence.TypeScript ∷
    field (codes "accessibility") (Holds.WordOrNull Words.Accessibility) Presence.TypeScript ∷
    field (codes "typeAnnotation") (Holds.NodeOrNull Category.TSTypeAnnotation) Presence.TypeScript ∷
    field (codes "value") (Holds.NodeOrNull Category.Expression) Presence.Optional ∷ []
row_of kind.AccessorProperty =
    field (codes "decorators") (Holds.List Category.Decorator) Presence.Optional ∷
    field (codes "key") (Holds.Node Category.PropertyKey) Presence.Required ∷
    field (codes "computed") Holds.Flag Presence.Optional ∷
    field (codes "static") Holds.Flag Presence.Optional ∷
    field (codes "override") Holds.Flag Presence.TypeScript ∷
    field (codes "definite") Holds.Flag Presence.TypeScript ∷
    field (codes "accessibility") (Holds.WordOrNull Words.Accessibility) Presence.TypeScript ∷
    field (codes "typeAnnotation") (Holds.NodeOrNull Category.TSTypeAnnotation) Presence.TypeScript ∷
    field (codes "value") (Holds.NodeOrNull Category.Expression) Presence.Optional ∷ []
row_of kind.TSAbstractAccessorProperty =
    field (codes "decorators") (Holds.List Category.Decorator) Presence.Optional ∷
    field (codes "key") (Holds.Node Category.PropertyKey) Presence.Required ∷
    field (codes "computed") Holds.Flag Presence.Optional ∷
    field (codes "static") Holds.Flag Presence.Optional ∷
    field (codes "override") Holds.Flag Presence.TypeScript ∷
    field (codes "definite") Holds.Flag Presence.TypeScript ∷
    field (codes "accessibility") (Holds.WordOrNull Words.Accessibility) Presence.TypeScript ∷
    field (codes "typeAnnotation") (Holds.NodeOrNull Category.TSTypeAnnotation) Presence.TypeScript ∷
    field (codes "value") (Holds.NodeOrNull Category.Expression) Presence.Optional ∷ []
row_of kind.StaticBlock =
    field (codes "body") (Holds.List Category.Statement) Presence.Required ∷ []
row_of kind.Decorator =
    field (codes "expression") (Holds.Node Category.Expression) Presence.Required ∷ []
row_of kind.BindingIdentifier =
    field (codes "name") Holds.Text Presence.Required ∷ []
row_of k = row_of_2 k
