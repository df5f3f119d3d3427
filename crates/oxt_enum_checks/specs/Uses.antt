-- Bare names that mean members of an enum.
use Rattle.std.specs.Prelude.{ℕ, Bool, false, ◌&&◌, ◌==◌, Option, None, Some, slice_get}
use Rattle.std.specs.Int.RustNames.{bit_and}
use Rattle.oxt_enum_checks.specs.Around.{Enum}
use Rattle.oxt_scoping.specs.Entries.{ScopeData, SymbolData}
use Rattle.oxt_scoping.specs.Meant.{symbol_in, value_use}
use Rattle.oxt_scoping.specs.Scoped.{Scoped}
use Rattle.oxt_scoping.specs.declared.entry.Reference.{Reference}
use Rattle.oxt_names.specs.declared.ids.ScopeId.{ScopeId}
use Rattle.oxt_names.specs.declared.ids.SymbolId.{SymbolId}

-- it is the scope of that number
abbrev pub is_scope : ℕ → Option ScopeId → Bool
is_scope n None = false
is_scope n (Some i) = i.0 == n

-- the scope around a scope
abbrev pub scope_around : Option ScopeData → Option ScopeId
scope_around None = None
scope_around (Some x) = x.parent

-- The symbol is that of a member of the enum: the body in which it stands is in the scope that declares the enum.
-- A bare name means only members of the enums around it, of which no two are declared in one scope.
abbrev pub is_own_member : Scoped → Enum → SymbolData → Bool
is_own_member s a y = bit_and y.flags.0 4096 == 4096 && is_scope a.scope (scope_around (slice_get s.scopes y.scope.0))

-- the same, if there is a symbol
abbrev pub is_own_symbol : Scoped → Enum → Option SymbolData → Bool
is_own_symbol s a None = false
is_own_symbol s a (Some y) = is_own_member s a y

-- the same of a symbol by its number
abbrev pub is_member_of : Scoped → Enum → Option SymbolId → Bool
is_member_of s a o = is_own_symbol s a (symbol_in s.symbols o)

-- a name that is used so means a member of the enum
abbrev pub means_member : Scoped → Enum → Option Reference → Bool
means_member s a None = false
means_member s a (Some r) = is_member_of s a r.symbol

-- the node of that number is a bare name, used as a value, that means a member of the enum
abbrev pub is_member_use : Scoped → Enum → ℕ → Bool
is_member_use s a n = means_member s a (value_use s n)
