-- Which names mean members of an enum.
use Rattle.std.specs.Prelude.{ℕ, length, Bool, false, not, ◌&&◌, ◌==◌, nat_lt, Option, None, Some, slice_get}
use Rattle.std.specs.Int.RustNames.{bit_and}
use Rattle.oxt_scoping.specs.Entries.{ScopeData, SymbolData}
use Rattle.oxt_scoping.specs.Meant.{value_meant}
use Rattle.oxt_scoping.specs.Scoped.{Scoped}
use Rattle.oxt_names.specs.declared.ids.ScopeId.{ScopeId}
use Rattle.oxt_names.specs.declared.ids.SymbolId.{SymbolId}

-- that scope
abbrev pub is_here : ScopeId → Option ScopeId → Bool
is_here x None = false
is_here x (Some p) = p.0 == x.0

-- a scope directly in that one
abbrev pub is_inside : ScopeId → Option ScopeData → Bool
is_inside x None = false
is_inside x (Some d) = is_here x d.parent

-- A member of an enum that is declared in the scope: the scope of a member is a body of its enum, which
-- stands directly in the scope that has the enum.
abbrev pub is_member : Scoped → ScopeId → Option SymbolData → Bool
is_member s x None = false
is_member s x (Some y) = not (bit_and y.flags.0 4096 == 0) && is_inside x (slice_get s.scopes y.scope.0)

-- the same of the symbol of that number, where the table has it
abbrev pub is_member_of : Scoped → ScopeId → Option SymbolId → Bool
is_member_of s x None = false
is_member_of s x (Some y) = nat_lt y.0 (length s.symbols) && is_member s x (slice_get s.symbols y.0)

-- The name that is the node of that number means, as a value, a member of an enum that is declared in the
-- scope. In a body of an enum, where the enums around it were lowered before, it is a member of that enum.
abbrev pub means_member : Scoped → ScopeId → ℕ → Bool
means_member s x n = is_member_of s x (value_meant s n)
