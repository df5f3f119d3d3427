-- What is known of scopes, declarations and uses.
use Rattle.std.specs.Prelude.{ℕ, Bool, true, false, not, ◌&&◌, ◌||◌, if◌then◌else◌}
use Rattle.std.specs.Int.RustNames.{bit_and, bit_or}
use Rattle.oxt_declares.specs.Declarations.{Declared, is_type_alone}
use Rattle.oxt_declares.specs.declared.declaration.Sort.{Sort}
use Rattle.oxt_declares.specs.declared.declaration.Sort.TheVariants as sort
use Rattle.oxt_declares.specs.declared.role.Role.{Role}
use Rattle.oxt_declares.specs.declared.role.Role.TheVariants as role
use Rattle.oxt_scopes.specs.declared.usage.Usage.{Usage}
use Rattle.oxt_scopes.specs.declared.usage.Usage.TheVariants as usage
use Rattle.oxt_scoping.specs.declared.entry.Redeclaration.{Redeclaration}
use Rattle.oxt_scopes.specs.declared.standing.Emission.{Emission}
use Rattle.oxt_scopes.specs.declared.standing.Emission.TheVariants as emission
use Rattle.oxt_scopes.specs.declared.standing.Standing.{Standing}
use Rattle.oxt_names.specs.declared.flags.ReferenceFlags.{ReferenceFlags}
use Rattle.oxt_names.specs.declared.flags.ScopeFlags.{ScopeFlags}
use Rattle.oxt_names.specs.declared.flags.SymbolFlags.{SymbolFlags}

-- ---- scopes

abbrev pub scope_flag : ℕ → ScopeFlags
scope_flag n = record { 0 = n }

-- the flags of both
abbrev pub both : ScopeFlags → ScopeFlags → ScopeFlags
both f g = record { 0 = bit_or f.0 g.0 }

-- The program is the top; functions with and without a body, arrow functions, static blocks, enums and
-- namespaces have flags of their own, and classes are strict.
abbrev pub role_flags : Role → ScopeFlags
role_flags role.Program = scope_flag 1
role_flags role.Function = scope_flag 2
role_flags role.Overload = scope_flag 2
role_flags role.FunctionExpression = scope_flag 2
role_flags role.Arrow = scope_flag (bit_or 2 4)
role_flags role.Class = scope_flag 8
role_flags role.ClassExpression = scope_flag 8
role_flags role.StaticBlock = scope_flag 128
role_flags role.Enum = scope_flag 256
role_flags role.Namespace = scope_flag 512
role_flags role.Module = scope_flag 512
role_flags r = scope_flag 0

-- A scope is strict where the one around it is.
abbrev pub inherited : ScopeFlags → ScopeFlags
inherited f = record { 0 = bit_and f.0 8 }

-- ---- symbols

abbrev pub symbol_flag : ℕ → SymbolFlags
symbol_flag n = record { 0 = n }

-- the flags of both
abbrev pub joined : SymbolFlags → SymbolFlags → SymbolFlags
joined f g = record { 0 = bit_or f.0 g.0 }

-- what a declaration declares its name as
abbrev pub sort_flags : Sort → SymbolFlags
sort_flags sort.Var = symbol_flag 1
sort_flags sort.Parameter = symbol_flag 1
sort_flags sort.Let = symbol_flag 2
sort_flags sort.Catch = symbol_flag 2
sort_flags sort.Const = symbol_flag (bit_or 2 4)
sort_flags sort.Using = symbol_flag (bit_or 2 4)
sort_flags sort.AwaitUsing = symbol_flag (bit_or 2 4)
sort_flags sort.Class = symbol_flag 8
sort_flags sort.InnerClass = symbol_flag 8
sort_flags sort.Function = symbol_flag 16
sort_flags sort.Overload = symbol_flag 16
sort_flags sort.InnerFunction = symbol_flag 16
sort_flags sort.Import = symbol_flag 32
sort_flags sort.TypeImport = symbol_flag 64
sort_flags sort.TypeAlias = symbol_flag 128
sort_flags sort.Interface = symbol_flag 256
sort_flags sort.TypeParameter = symbol_flag 512
sort_flags sort.Enum = symbol_flag 1024
sort_flags sort.ConstEnum = symbol_flag 2048
sort_flags sort.EnumMember = symbol_flag 4096
sort_flags sort.ValueModule = symbol_flag 8192
sort_flags sort.NamespaceModule = symbol_flag 16384

abbrev pub is_ambient_by : Emission → Bool
is_ambient_by emission.Ambient = true
is_ambient_by emission.Declared = true
is_ambient_by e = false

abbrev pub is_ambient : Standing → Bool
is_ambient s = is_ambient_by s.emission

abbrev pub is_emitted_by : Emission → Bool
is_emitted_by emission.Emitted = true
is_emitted_by e = false

abbrev pub is_emitted : Standing → Bool
is_emitted s = is_emitted_by s.emission

-- the flags of a declaration, of which that says whether it is ambient
abbrev pub ambient_flags : Bool → SymbolFlags → SymbolFlags
ambient_flags b f = if b then joined f (symbol_flag 32768) else f

-- A declaration is ambient that says `declare` or stands in a scope that does.
abbrev pub declared_flags : Standing → Declared → SymbolFlags
declared_flags s d = ambient_flags (is_ambient s || d.ambient) (sort_flags d.sort)

-- what is erased by itself: a type, and a function without a body
abbrev pub is_erased_sort : Sort → Bool
is_erased_sort sort.Overload = true
is_erased_sort s = is_type_alone s

-- A declaration emits code unless it is erased, by itself, by `declare` or by what it stands in.
abbrev pub emits : Standing → Declared → Bool
emits s d = is_emitted s && (not d.ambient && not (is_erased_sort d.sort))

-- a declaration in a scope of that standing
abbrev pub redeclared : Standing → Declared → Redeclaration
redeclared s d = record { node = record { 0 = d.node }; flags = declared_flags s d; emits = emits s d }

-- ---- references

abbrev pub usage_flags : Usage → ReferenceFlags
usage_flags usage.Read = record { 0 = 1 }
usage_flags usage.Write = record { 0 = 2 }
usage_flags usage.ReadWrite = record { 0 = bit_or 1 2 }
usage_flags usage.Type = record { 0 = 4 }
