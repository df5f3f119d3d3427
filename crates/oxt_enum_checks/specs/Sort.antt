-- What declarations are to blocks of their names.
use Rattle.std.specs.Prelude.{ℕ, Bool, true, false, not, ◌==◌, if◌then◌else◌}
use Rattle.std.specs.Int.RustNames.{bit_and, bit_or}
use Rattle.oxt_enum_checks.specs.declared.sort.Sort.{Sort}
use Rattle.oxt_enum_checks.specs.declared.sort.Sort.TheVariants as sort
use Rattle.oxt_names.specs.declared.flags.SymbolFlags.{SymbolFlags}

-- one of those flags is set
abbrev pub has_flag : SymbolFlags → ℕ → Bool
has_flag f n = not (bit_and f.0 n == 0)

-- a block of an enum, `const` or not, one of a namespace that is no type alone, a function or class, or
-- anything else
abbrev pub sort_of : SymbolFlags → Sort
sort_of f =
    if has_flag f (bit_or 1024 2048) then sort.Enum
    else if has_flag f 8192 then sort.Namespace
    else if has_flag f (bit_or 8 16) then sort.Base
    else sort.Other

-- a block of either
abbrev pub is_block : Sort → Bool
is_block sort.Enum = true
is_block sort.Namespace = true
is_block o = false

-- a block of a namespace
abbrev pub is_namespace : Sort → Bool
is_namespace sort.Namespace = true
is_namespace o = false

-- a function or class, with which namespaces behind it may merge
abbrev pub is_base : Sort → Bool
is_base sort.Base = true
is_base o = false
