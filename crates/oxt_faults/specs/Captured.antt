-- Names that would change their owner once erased declarations are gone.
use Rattle.std.specs.Prelude.{ℕ, zero, suc, List, Bool, false, not, ◌&&◌, ◌||◌, ◌==◌, if◌then◌else◌, Option, None, Some, slice_get}
use Rattle.std.specs.List.{list_any}
use Rattle.oxt_faults.specs.declared.captured.CapturedName.{CapturedName}
use Rattle.oxt_scoping.specs.Entries.{ScopeData, SymbolData}
use Rattle.oxt_scoping.specs.Meant.{symbol_in, value_meant}
use Rattle.oxt_scoping.specs.Scoped.{Scoped, binding_at}
use Rattle.oxt_scoping.specs.declared.entry.Redeclaration.{Redeclaration}
use Rattle.oxt_search.specs.First.{first_in}
use Rattle.oxt_search.specs.Sought.{Sought}
use Rattle.oxt_tree.specs.declared.inside.Inside.TheVariants as inside
use Rattle.oxt_names.specs.declared.ids.ScopeId.{ScopeId}
use Rattle.oxt_tree.specs.Doc.{Doc}
use Rattle.oxt_names.specs.Names.{name_bytes}
use Rattle.oxt_declares.specs.Dropped.{inside_dropped_by, is_dropped_by}

-- the number of the node that is the name, and its spelling
pub record Capture : Type 0 where
  pub node : ℕ
  pub name : List ℕ

abbrev pub capture_view : CapturedName → Capture
capture_view c = record { node = c.node.0; name = name_bytes c.name.now }

-- ---- symbols

-- one of the declarations emits code
abbrev pub emits : List Redeclaration → Bool
emits ds = list_any (λ d. d.emits) ds

-- a declaration of the symbol emits code
abbrev pub is_emitted : Option SymbolData → Bool
is_emitted None = false
is_emitted (Some y) = emits y.declarations

-- the scope binds the spelling to a symbol of which a declaration emits code
abbrev pub emits_at : Scoped → List ℕ → ScopeId → Bool
emits_at s t i = is_emitted (symbol_in s.symbols (binding_at s.scopes i.0 t))

-- the scope around the scope
abbrev pub around : Option ScopeData → Option ScopeId
around None = None
around (Some x) = x.parent

-- A scope from that one outwards does so, through at most so many scopes.
abbrev pub emits_from : ℕ → Scoped → List ℕ → Option ScopeId → Bool
emits_from zero s t i = false
emits_from (suc n) s t None = false
emits_from (suc n) s t (Some i) = emits_at s t i || emits_from n s t (around (slice_get s.scopes i.0))

-- A scope further out than that one does so: there are no more of them than its number says, since a
-- scope is made after those around it.
abbrev pub emits_outside : Scoped → List ℕ → ScopeId → Bool
emits_outside s t i = emits_from i.0 s t (around (slice_get s.scopes i.0))

-- one of the declarations emits code and is none of those that are left out, which are known by the nodes of their names
abbrev pub emits_beside : (ℕ → Bool) → List Redeclaration → Bool
emits_beside ls ds = list_any (λ d. d.emits && not (ls d.node.0)) ds

-- No declaration of the symbol emits code, but for those that are left out, while its name means one that does in a scope
-- further out.
abbrev pub is_captured : Scoped → (ℕ → Bool) → SymbolData → Bool
is_captured s ls y = not (emits_beside ls y.declarations) && emits_outside s y.name y.scope

-- ---- references

-- the node, where the symbol that it means is captured
abbrev pub captured_as : Scoped → (ℕ → Bool) → ℕ → Option SymbolData → Option Capture
captured_as s ls n None = None
captured_as s ls n (Some y) = if is_captured s ls y then Some (record { node = n; name = y.name }) else None

-- the node with that number, if it is a captured name
abbrev pub captured_at : Scoped → (ℕ → Bool) → ℕ → Option Capture
captured_at s ls n = captured_as s ls n (symbol_in s.symbols (value_meant s n))

-- ---- trees

-- outside what is erased, each node that is a captured name; the flag says that decorators have their older meaning
abbrev pub sought : Bool → Scoped → (ℕ → Bool) → Sought (Unit {0}) Capture
sought legacy s ls =
    record {
      at = λ u k i ds. if is_dropped_by k ds then None else captured_at s ls i;
      inside = λ u k i ds. if is_dropped_by k ds then inside_dropped_by legacy k ds tt else inside.Alike u;
      in_field = λ u k r. Some u;
    }

-- The first captured name of a whole tree, of which the declarations with these names are left out: a node stands before
-- those in it.
abbrev pub captured : Bool → Scoped → (ℕ → Bool) → Doc → Option Capture
captured legacy s ls d = first_in (sought legacy s ls) d tt
