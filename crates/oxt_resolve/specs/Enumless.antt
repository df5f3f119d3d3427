-- Scopes that declare nothing of enums.
use Rattle.std.specs.Prelude.{Bool, true, false}
use Rattle.std.specs.List.{list_any}
use Rattle.oxt_declares.specs.declared.declaration.Sort.{Sort}
use Rattle.oxt_resolve.specs.Resolved.{part_of}
use Rattle.oxt_resolve.specs.declared.enums.EnumPart.{EnumPart}
use Rattle.oxt_resolve.specs.declared.enums.EnumPart.TheVariants as part
use Rattle.oxt_scopes.specs.declared.scopes.OpenedScope.{OpenedScope}

-- a block or a member of an enum
abbrev pub is_enum_part : EnumPart → Bool
is_enum_part part.Block = true
is_enum_part part.Member = true
is_enum_part part.Neither = false

-- what is declared as that is one of them
abbrev pub is_of_enum : Sort → Bool
is_of_enum s = is_enum_part (part_of s)

-- the scope declares one of them
abbrev pub declares_enum : OpenedScope → Bool
declares_enum s = list_any (λ d. is_of_enum d.sort) s.declarations.items
