-- What is kept of a scope and of a symbol.
use Rattle.std.specs.Prelude.{ℕ, List, [], ◌∷◌, Bool, false, not, ◌&&◌, if◌then◌else◌, None, Some, map, filter, ◌==◌, Option, String, string_bytes}
use Rattle.std.specs.Int.RustNames.{bit_and, bit_or}
use Rattle.std.specs.declared.alloc.Global.{Global}
use Rattle.std.specs.Map.{lookup, remove_entry}
use Rattle.std.specs.Str.{bytes_eq}
use Rattle.std.specs.BTreeMap.{insert_entry}
use Rattle.std.specs.Cmp.Lexicographic.{slice_cmp}
use Rattle.std.specs.Ordering.{nat_cmp}
use Rattle.oxt_names.specs.declared.flags.ScopeFlags.{ScopeFlags}
use Rattle.oxt_names.specs.declared.flags.SymbolFlags.{SymbolFlags}
use Rattle.oxt_names.specs.declared.ids.ReferenceId.{ReferenceId}
use Rattle.oxt_names.specs.declared.ids.ScopeId.{ScopeId}
use Rattle.oxt_names.specs.declared.ids.SymbolId.{SymbolId}
use Rattle.oxt_names.specs.Constant.{Constant}
use Rattle.oxt_scoping.specs.declared.entry.Redeclaration.{Redeclaration}

-- the symbols of a scope by their spellings, in the order of the bytes of the spellings
abbrev pub Bindings : Type 0
Bindings = List (List ℕ × SymbolId)

-- a scope: the one around it, its flags and what it binds
pub record ScopeData : Type 0 where
  pub parent : Option ScopeId
  pub flags : ScopeFlags
  pub bindings : Bindings

-- a symbol: its spelling, its scope, its flags, its declarations in the order of the text, the
-- references that mean it, the scopes of the bodies of an enum, and the constant of a member of one
pub record SymbolData : Type 0 where
  pub name : List ℕ
  pub scope : ScopeId
  pub flags : SymbolFlags
  pub declarations : List Redeclaration
  pub references : List ReferenceId
  pub bodies : List ScopeId
  pub value : Option Constant

-- the bindings of a table
abbrev pub spelled : List (String Global × SymbolId) → Bindings
spelled es = map (λ e. (string_bytes e.0, e.1)) es

-- the symbol that the spelling is bound to
abbrev pub bound_to : List ℕ → Bindings → Option SymbolId
bound_to t bs = lookup (bytes_eq t) bs

-- the bindings with that one, in place of an earlier one of the spelling if there is one
abbrev pub bind : List ℕ → SymbolId → Bindings → Bindings
bind t s bs = insert_entry (slice_cmp nat_cmp) bs t s

-- the bindings without that of the spelling
abbrev pub unbind : List ℕ → Bindings → Bindings
unbind t bs = remove_entry (bytes_eq t) bs

-- the references without that one
abbrev pub without : ReferenceId → List ReferenceId → List ReferenceId
without r rs = filter (λ q. not (q.0 == r.0)) rs

-- the flags of variables, classes, functions, imports, enums and their members, and namespaces that
-- are no types alone
abbrev pub value_bits : ℕ
value_bits = bit_or (bit_or (bit_or (bit_or (bit_or (bit_or (bit_or (bit_or (bit_or 1 2) 4) 8) 16) 32) 1024) 2048) 4096) 8192

-- what is more than a type, and not ambient
abbrev pub is_value : SymbolFlags → Bool
is_value f = not (bit_and f.0 value_bits == 0) && not (not (bit_and f.0 32768 == 0))

-- the scope with those bindings alone whose symbols pass the test
abbrev pub keeping : (SymbolId → Bool) → ScopeData → ScopeData
keeping p x = record x { bindings = filter (λ b. p b.1) x.bindings }

-- an enum, `const` or not
abbrev pub is_enum : SymbolFlags → Bool
is_enum f = not (bit_and f.0 (bit_or 1024 2048) == 0)

-- the scopes of the bodies of the symbol, if it is an enum
abbrev pub bodies_of : SymbolData → Option (List ScopeId)
bodies_of y = if is_enum y.flags then Some y.bodies else None

-- the first of the declarations that is a block of an enum is `const`
abbrev pub begins_const : List Redeclaration → Bool
begins_const [] = false
begins_const (d ∷ ds) = if is_enum d.flags then bit_and d.flags.0 2048 == 2048 else begins_const ds
