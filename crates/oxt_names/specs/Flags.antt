-- The flags of symbols, scopes and references: the bit of each, and the bits of a set.
use Rattle.std.specs.Prelude.{ℕ, List, [], ◌∷◌, Bool, not, ◌==◌, codes}
use Rattle.std.specs.Int.RustNames.{bit_and, bit_or}
use Rattle.oxt_names.specs.declared.flags.SymbolFlags.{SymbolFlags}
use Rattle.oxt_names.specs.declared.flags.ScopeFlags.{ScopeFlags}
use Rattle.oxt_names.specs.declared.flags.ReferenceFlags.{ReferenceFlags}

-- how flags are set: the name of each with its bit
abbrev pub Table : Type 0
Table = List (List ℕ × ℕ)

-- the bits of a set of flags of a symbol
abbrev pub symbol_bits : SymbolFlags → ℕ
symbol_bits flags = flags.0

-- the flags of imports of types, type aliases, interfaces, type parameters and namespaces of types
abbrev pub type_bits : ℕ
type_bits = bit_or (bit_or (bit_or (bit_or 64 128) 256) 512) 16384

-- the flags of what is a type alone
abbrev pub is_type_alone : SymbolFlags → Bool
is_type_alone flags = not (bit_and flags.0 type_bits == 0)

abbrev pub symbol_table : Table
symbol_table =
    (codes "FunctionScopedVariable", 1)
    ∷ (codes "BlockScopedVariable", 2)
    ∷ (codes "ConstVariable", 4)
    ∷ (codes "Class", 8)
    ∷ (codes "Function", 16)
    ∷ (codes "Import", 32)
    ∷ (codes "TypeImport", 64)
    ∷ (codes "TypeAlias", 128)
    ∷ (codes "Interface", 256)
    ∷ (codes "TypeParameter", 512)
    ∷ (codes "Enum", 1024)
    ∷ (codes "ConstEnum", 2048)
    ∷ (codes "EnumMember", 4096)
    ∷ (codes "ValueModule", 8192)
    ∷ (codes "NamespaceModule", 16384)
    ∷ (codes "Ambient", 32768)
    ∷ []

-- the bits of a set of flags of a scope
abbrev pub scope_bits : ScopeFlags → ℕ
scope_bits flags = flags.0

abbrev pub scope_table : Table
scope_table =
    (codes "Top", 1)
    ∷ (codes "Function", 2)
    ∷ (codes "Arrow", 4)
    ∷ (codes "StrictMode", 8)
    ∷ (codes "Constructor", 16)
    ∷ (codes "GetAccessor", 32)
    ∷ (codes "SetAccessor", 64)
    ∷ (codes "ClassStaticBlock", 128)
    ∷ (codes "EnumBody", 256)
    ∷ (codes "NamespaceBody", 512)
    ∷ []

-- the bits of a set of flags of a reference
abbrev pub reference_bits : ReferenceFlags → ℕ
reference_bits flags = flags.0

abbrev pub reference_table : Table
reference_table =
    (codes "Read", 1)
    ∷ (codes "Write", 2)
    ∷ (codes "TypeUse", 4)
    ∷ []
