-- Written by tools/grammar.py from grammar/grammar.txt.
-- The field of a key.
use Rattle.std.proofs.Common.{◌≡◌, refl, ℕ, List, [], ◌∷◌, Option, Some, bytes_eq}
use Rattle.std.specs.Prelude.{find}
use Rattle.oxt_grammar.specs.Keys.{key_of}
use Rattle.oxt_grammar.specs.declared.field.Field.{Field}
use Rattle.oxt_grammar.specs.declared.field.Field.TheVariants as field

-- each field
pub fields : List Field
fields = field.SourceType ∷ field.Lang ∷ field.Hashbang ∷ field.Directives ∷ field.Body ∷ field.Value ∷ field.Expression ∷ field.Test ∷ field.Consequent ∷ field.Alternate ∷ field.Init ∷ field.Update ∷ field.Left ∷ field.Right ∷ field.Await ∷ field.Argument ∷ field.Label ∷ field.Object ∷ field.Discriminant ∷ field.Cases ∷ field.Block ∷ field.Handler ∷ field.Finalizer ∷ field.Param ∷ field.Pattern ∷ field.TypeAnnotation ∷ field.Kind ∷ field.Declarations ∷ field.Declare ∷ field.Id ∷ field.Definite ∷ field.Async ∷ field.Generator ∷ field.TypeParameters ∷ field.ThisParam ∷ field.Params ∷ field.ReturnType ∷ field.Items ∷ field.Rest ∷ field.Decorators ∷ field.Accessibility ∷ field.Readonly ∷ field.Override ∷ field.Optional ∷ field.Initializer ∷ field.Statements ∷ field.SuperClass ∷ field.SuperTypeArguments ∷ field.Implements ∷ field.Abstract ∷ field.Key ∷ field.Computed ∷ field.Static ∷ field.Name ∷ field.Properties ∷ field.Elements ∷ field.Shorthand ∷ field.Binding ∷ field.Target ∷ field.Raw ∷ field.Flags ∷ field.Meta ∷ field.Property ∷ field.Quasis ∷ field.Expressions ∷ field.Cooked ∷ field.Tag ∷ field.TypeArguments ∷ field.Quasi ∷ field.Method ∷ field.Operator ∷ field.Prefix ∷ field.Callee ∷ field.Arguments ∷ field.Pure ∷ field.Source ∷ field.Options ∷ field.Field ∷ field.Delegate ∷ field.OpeningElement ∷ field.Children ∷ field.ClosingElement ∷ field.Attributes ∷ field.Namespace ∷ field.ImportKind ∷ field.Phase ∷ field.Specifiers ∷ field.WithClause ∷ field.Imported ∷ field.Local ∷ field.Entries ∷ field.Declaration ∷ field.ExportKind ∷ field.Exported ∷ field.Const ∷ field.Members ∷ field.ModuleReference ∷ field.TypeName ∷ field.Types ∷ field.TrueType ∷ field.FalseType ∷ field.Asserts ∷ field.Literal ∷ []

-- the field of that key
unfoldable pub field_of : List ℕ → Option Field
field_of key = find (λ f. bytes_eq (key_of f) key) fields

pub field_of-key : (f : Field) → field_of (key_of f) ≡ Some f
unfolding field_of fields
field_of-key field.SourceType = refl
field_of-key field.Lang = refl
field_of-key field.Hashbang = refl
field_of-key field.Directives = refl
field_of-key field.Body = refl
field_of-key field.Value = refl
field_of-key field.Expression = refl
field_of-key field.Test = refl
field_of-key field.Consequent = refl
field_of-key field.Alternate = refl
field_of-key field.Init = refl
field_of-key field.Update = refl
field_of-key field.Left = refl
field_of-key field.Right = refl
field_of-key field.Await = refl
field_of-key field.Argument = refl
field_of-key field.Label = refl
field_of-key field.Object = refl
field_of-key field.Discriminant = refl
field_of-key field.Cases = refl
field_of-key field.Block = refl
field_of-key field.Handler = refl
field_of-key field.Finalizer = refl
field_of-key field.Param = refl
field_of-key field.Pattern = refl
field_of-key field.TypeAnnotation = refl
field_of-key field.Kind = refl
field_of-key field.Declarations = refl
field_of-key field.Declare = refl
field_of-key field.Id = refl
field_of-key field.Definite = refl
field_of-key field.Async = refl
field_of-key field.Generator = refl
field_of-key field.TypeParameters = refl
field_of-key field.ThisParam = refl
field_of-key field.Params = refl
field_of-key field.ReturnType = refl
field_of-key field.Items = refl
field_of-key field.Rest = refl
field_of-key field.Decorators = refl
field_of-key field.Accessibility = refl
field_of-key field.Readonly = refl
field_of-key field.Override = refl
field_of-key field.Optional = refl
field_of-key field.Initializer = refl
field_of-key field.Statements = refl
field_of-key field.SuperClass = refl
field_of-key field.SuperTypeArguments = refl
field_of-key field.Implements = refl
field_of-key field.Abstract = refl
field_of-key field.Key = refl
field_of-key field.Computed = refl
field_of-key field.Static = refl
field_of-key field.Name = refl
field_of-key field.Properties = refl
field_of-key field.Elements = refl
field_of-key field.Shorthand = refl
field_of-key field.Binding = refl
field_of-key field.Target = refl
field_of-key field.Raw = refl
field_of-key field.Flags = refl
field_of-key field.Meta = refl
field_of-key field.Property = refl
field_of-key field.Quasis = refl
field_of-key field.Expressions = refl
field_of-key field.Cooked = refl
field_of-key field.Tag = refl
field_of-key field.TypeArguments = refl
field_of-key field.Quasi = refl
field_of-key field.Method = refl
field_of-key field.Operator = refl
field_of-key field.Prefix = refl
field_of-key field.Callee = refl
field_of-key field.Arguments = refl
field_of-key field.Pure = refl
field_of-key field.Source = refl
field_of-key field.Options = refl
field_of-key field.Field = refl
field_of-key field.Delegate = refl
field_of-key field.OpeningElement = refl
field_of-key field.Children = refl
field_of-key field.ClosingElement = refl
field_of-key field.Attributes = refl
field_of-key field.Namespace = refl
field_of-key field.ImportKind = refl
field_of-key field.Phase = refl
field_of-key field.Specifiers = refl
field_of-key field.WithClause = refl
field_of-key field.Imported = refl
field_of-key field.Local = refl
field_of-key field.Entries = refl
field_of-key field.Declaration = refl
field_of-key field.ExportKind = refl
field_of-key field.Exported = refl
field_of-key field.Const = refl
field_of-key field.Members = refl
field_of-key field.ModuleReference = refl
field_of-key field.TypeName = refl
field_of-key field.Types = refl
field_of-key field.TrueType = refl
field_of-key field.FalseType = refl
field_of-key field.Asserts = refl
field_of-key field.Literal = refl
