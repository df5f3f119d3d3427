-- What metadata says of types.
use Rattle.std.specs.Prelude.{ℕ, List, [], ◌∷◌, Bool, ◌&&◌, nat_eq, if◌then◌else◌, Option, None, Some, codes}
use Rattle.std.specs.Map.{lookup}
use Rattle.std.specs.Option.{option_or}
use Rattle.oxt_options.specs.declared.metadata.GlobalName.{GlobalName}
use Rattle.oxt_options.specs.declared.metadata.GlobalName.TheVariants as global_name
use Rattle.oxt_options.specs.declared.metadata.MetadataType.{MetadataType}
use Rattle.oxt_options.specs.declared.options.DecoratorOptions.{DecoratorOptions}

-- the names that metadata has of its own
abbrev pub text_of_global : GlobalName → List ℕ
text_of_global global_name.Object = codes "Object"
text_of_global global_name.Function = codes "Function"
text_of_global global_name.Array = codes "Array"
text_of_global global_name.Boolean = codes "Boolean"
text_of_global global_name.String = codes "String"
text_of_global global_name.Number = codes "Number"
text_of_global global_name.BigInt = codes "BigInt"
text_of_global global_name.Symbol = codes "Symbol"
text_of_global global_name.Promise = codes "Promise"

-- Metadata is emitted where that is asked for and decorators have their older meaning.
abbrev pub emits_metadata : DecoratorOptions → Bool
emits_metadata o = o.legacy && o.emit_decorator_metadata

-- what the list has written for the annotation of that number
abbrev pub type_at : List (ℕ × MetadataType) → ℕ → Option MetadataType
type_at ts n = lookup (nat_eq n) ts

-- what a list has last for it, where it may have several
abbrev pub last_type : List (ℕ × MetadataType) → ℕ → Option MetadataType
last_type [] n = None
last_type (t ∷ ts) n = option_or (last_type ts n) (if nat_eq t.0 n then Some t.1 else None)
