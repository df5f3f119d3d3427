-- What the table says of the names of imports and exports.
use Rattle.std.specs.Prelude.{ℕ, List, [], Bool, false, not, ◌&&◌, ◌==◌, Option, None, Some, slice_get}
use Rattle.std.specs.Int.RustNames.{bit_and}
use Rattle.std.specs.List.{list_any}
use Rattle.oxt_scoping.specs.Entries.{SymbolData}
use Rattle.oxt_scoping.specs.Meant.{declared_symbol}
use Rattle.oxt_scoping.specs.Scoped.{Scoped, binding_at, live_at}
use Rattle.oxt_scoping.specs.declared.entry.Redeclaration.{Redeclaration}
use Rattle.oxt_scoping.specs.declared.entry.Reference.{Reference}
use Rattle.oxt_scoping.specs.declared.entry.Slot.{Slot}
use Rattle.oxt_names.specs.Flags.{is_type_alone}
use Rattle.oxt_names.specs.declared.ids.ReferenceId.{ReferenceId}
use Rattle.oxt_names.specs.declared.ids.SymbolId.{SymbolId}

-- the declarations of a symbol
abbrev pub declarations_of : Option SymbolData → List Redeclaration
declarations_of None = []
declarations_of (Some y) = y.declarations

-- the references to a symbol
abbrev pub references_of : Option SymbolData → List ReferenceId
references_of None = []
references_of (Some y) = y.references

-- one of the declarations is by another node and more than a type
abbrev pub has_other_value : ℕ → List Redeclaration → Bool
has_other_value n ds = list_any (λ d. not (d.node.0 == n) && not (is_type_alone d.flags)) ds

-- another declaration of the symbol that the node of that number declares is more than a type
abbrev pub is_declared_again : Scoped → ℕ → Bool
is_declared_again s n = has_other_value n (declarations_of (declared_symbol s n))

-- the reference was not deleted, and does not stand in a type
abbrev pub is_value_use : Option Reference → Bool
is_value_use None = false
is_value_use (Some r) = bit_and r.flags.0 4 == 0

-- one of the references is so
abbrev pub has_value_use : List Slot → List ReferenceId → Bool
has_value_use ss rs = list_any (λ r. is_value_use (live_at ss r.0)) rs

-- a value use means the symbol that the node of that number declares
abbrev pub is_used : Scoped → ℕ → Bool
is_used s n = has_value_use s.references (references_of (declared_symbol s n))

-- none of the declarations of the symbol, if it is there, emits code
abbrev pub emits_nothing : List SymbolData → Option SymbolId → Bool
emits_nothing ys None = false
emits_nothing ys (Some i) = not (list_any (λ d. d.emits) (declarations_of (slice_get ys i.0)))

-- the program's scope binds the name to such a symbol
abbrev pub is_type_name : Scoped → List ℕ → Bool
is_type_name s t = emits_nothing s.symbols (binding_at s.scopes 0 t)

-- an export of the name stays
abbrev pub is_name_kept : Scoped → List ℕ → Bool
is_name_kept s t = not (is_type_name s t)
