-- The scopes, symbols and references of a program, each known by its place in its list.
use Rattle.std.specs.Prelude.{ℕ, zero, suc, List, [], ◌∷◌, ◌++◌, length, map, Bool, true, false, ◌<◌, nat_eq, if◌then◌else◌, Option, None, Some, IfSome, slice_get}
use Rattle.std.specs.BTreeMap.{insert_entry}
use Rattle.std.specs.Map.{lookup, remove_entry, set_value}
use Rattle.std.specs.Ordering.{nat_cmp}
use Rattle.oxt_names.specs.declared.ids.NodeId.{NodeId}
use Rattle.oxt_names.specs.declared.flags.ScopeFlags.{ScopeFlags}
use Rattle.oxt_names.specs.declared.flags.SymbolFlags.{SymbolFlags}
use Rattle.oxt_names.specs.declared.ids.ReferenceId.{ReferenceId}
use Rattle.oxt_names.specs.declared.ids.ScopeId.{ScopeId}
use Rattle.oxt_names.specs.declared.ids.SymbolId.{SymbolId}
use Rattle.oxt_names.specs.Constant.{Constant}
use Rattle.oxt_scoping.specs.declared.entry.Redeclaration.{Redeclaration}
use Rattle.oxt_scoping.specs.declared.entry.Reference.{Reference}
use Rattle.oxt_scoping.specs.declared.entry.Slot.{Slot}
use Rattle.oxt_scoping.specs.Entries.{ScopeData, SymbolData, bind, bound_to, is_value, keeping, unbind, without}

-- the scopes, the symbols and the references; by the number of a node the scope that it opens, the
-- symbol that it declares and the reference that was last made of it, in the order of the numbers; and
-- the names that are taken
pub record Scoped : Type 0 where
  pub scopes : List ScopeData
  pub symbols : List SymbolData
  pub references : List Slot
  pub opened : List (ℕ × ScopeId)
  pub declared : List (ℕ × SymbolId)
  pub named : List (ℕ × ReferenceId)
  pub taken : List (List ℕ)

-- what a table has for the node with that number
abbrev pub at_node : {V : Type 0} → NodeId → List (ℕ × V) → Option V
at_node n es = lookup (nat_eq n.0) es

-- a table in which a value was put at the number of that node, with what it had there before
abbrev pub with_before : {V : Type 0} → NodeId → Option V → List (ℕ × V) → List (ℕ × V)
with_before n None es = remove_entry (nat_eq n.0) es
with_before n (Some v) es = set_value (nat_eq n.0) es v

-- the list with the element at that place changed
abbrev pub changed_at : {A : Type 0} → ℕ → (A → A) → List A → List A
changed_at i f [] = []
changed_at zero f (x ∷ xs) = f x ∷ xs
changed_at (suc i) f (x ∷ xs) = x ∷ changed_at i f xs

-- ---- scopes

-- a scope that binds nothing
abbrev pub new_scope : Option ScopeId → ScopeFlags → ScopeData
new_scope p f = record { parent = p; flags = f; bindings = [] }

-- the symbol that the spelling is bound to in that scope, if there is one
abbrev pub binding_in : Option ScopeData → List ℕ → Option SymbolId
binding_in None t = None
binding_in (Some x) t = bound_to t x.bindings

-- the same of the scope at that place
abbrev pub binding_at : List ScopeData → ℕ → List ℕ → Option SymbolId
binding_at xs i t = binding_in (slice_get xs i) t

-- the first answer, if there is one, and else the second
abbrev pub first_of : Option SymbolId → Option SymbolId → Option SymbolId
first_of None o = o
first_of (Some y) o = Some y

-- what is found in a scope, or else by looking on from the one around it
abbrev pub found_from : Option ScopeData → (Option ScopeId → Option SymbolId) → List ℕ → Option SymbolId
found_from None c t = None
found_from (Some x) c t = first_of (bound_to t x.bindings) (c x.parent)

-- The symbol that the spelling is bound to in the innermost scope that has it, from that scope outwards
-- through at most so many scopes.
abbrev pub found_within : ℕ → List ScopeData → List ℕ → Option ScopeId → Option SymbolId
found_within zero xs t i = None
found_within (suc n) xs t None = None
found_within (suc n) xs t (Some i) = found_from (slice_get xs i.0) (found_within n xs t) t

-- The same through all scopes around it: there are no more of them than scopes.
abbrev pub found_outwards : List ScopeData → ScopeId → List ℕ → Option SymbolId
found_outwards xs i t = found_within (length xs) xs t (Some i)

-- the scopes with the spelling bound to that symbol in the one at that place
abbrev pub bound_at : ℕ → List ℕ → SymbolId → List ScopeData → List ScopeData
bound_at i t y xs = changed_at i (λ x. record x { bindings = bind t y x.bindings }) xs

-- the scopes with the spelling bound to nothing in the one at that place
abbrev pub unbound_at : ℕ → List ℕ → List ScopeData → List ScopeData
unbound_at i t xs = changed_at i (λ x. record x { bindings = unbind t x.bindings }) xs

-- the scopes with those flags of the one at that place
abbrev pub with_scope_flags : ℕ → ScopeFlags → List ScopeData → List ScopeData
with_scope_flags i f xs = changed_at i (λ x. record x { flags = f }) xs

-- ---- symbols

-- a symbol with one declaration, which nothing means
abbrev pub new_symbol : List ℕ → ScopeId → SymbolFlags → Redeclaration → SymbolData
new_symbol t x f d = record { name = t; scope = x; flags = f; declarations = d ∷ []; references = []; bodies = []; value = None }

-- the symbol is a value that is not ambient
abbrev pub is_value_symbol : Option SymbolData → Bool
is_value_symbol None = false
is_value_symbol (Some y) = is_value y.flags

-- the same of the symbol of that number
abbrev pub stays : List SymbolData → SymbolId → Bool
stays ys i = is_value_symbol (slice_get ys i.0)

-- the scopes with the bindings of values alone
abbrev pub values_alone : List SymbolData → List ScopeData → List ScopeData
values_alone ys xs = map (keeping (stays ys)) xs

-- the symbols with those flags of the one at that place
abbrev pub with_symbol_flags : ℕ → SymbolFlags → List SymbolData → List SymbolData
with_symbol_flags i f ys = changed_at i (λ y. record y { flags = f }) ys

-- the symbols with that declaration of the one at that place behind its others
abbrev pub declared_again : ℕ → Redeclaration → List SymbolData → List SymbolData
declared_again i d ys = changed_at i (λ y. record y { declarations = y.declarations ++ d ∷ [] }) ys

-- the symbols with that scope of a body of the one at that place behind its others
abbrev pub with_body_at : ℕ → ScopeId → List SymbolData → List SymbolData
with_body_at i x ys = changed_at i (λ y. record y { bodies = y.bodies ++ x ∷ [] }) ys

-- the symbols with that constant of the one at that place
abbrev pub with_value_at : ℕ → Constant → List SymbolData → List SymbolData
with_value_at i v ys = changed_at i (λ y. record y { value = Some v }) ys

-- the symbols, one of which that reference means, if it means any
abbrev pub meant_by : ReferenceId → Option SymbolId → List SymbolData → List SymbolData
meant_by r None ys = ys
meant_by r (Some i) ys = changed_at i.0 (λ y. record y { references = y.references ++ r ∷ [] }) ys

-- the symbols, which that reference means no longer
abbrev pub forgotten_by : ReferenceId → Option SymbolId → List SymbolData → List SymbolData
forgotten_by r None ys = ys
forgotten_by r (Some i) ys = changed_at i.0 (λ y. record y { references = without r y.references }) ys

-- ---- references

-- the reference, if it was not deleted
abbrev pub live : Option Slot → Option Reference
live None = None
live (Some s) = if s.is_live then Some s.reference else None

-- the reference at that place
abbrev pub live_at : List Slot → ℕ → Option Reference
live_at ss i = live (slice_get ss i)

-- the number, where there is a reference
abbrev pub kept : Option Reference → ReferenceId → Option ReferenceId
kept None r = None
kept (Some q) r = Some r

abbrev pub meant : Option Slot → Option SymbolId
meant None = None
meant (Some s) = s.reference.symbol

-- a reference by its place, if it was not deleted
abbrev pub still : List Slot → Option ReferenceId → Option ReferenceId
still ss None = None
still ss (Some r) = kept (live_at ss r.0) r

-- the symbol that the reference at that place means
abbrev pub meant_at : List Slot → ℕ → Option SymbolId
meant_at ss i = meant (slice_get ss i)

abbrev pub deleted_at : ℕ → List Slot → List Slot
deleted_at i ss = changed_at i (λ s. record s { is_live = false }) ss

-- the references with that one at that place
abbrev pub with_reference_at : ℕ → Reference → List Slot → List Slot
with_reference_at i r ss = changed_at i (λ s. record s { reference = r }) ss

-- ---- what the calls that make and delete leave

-- a scope more, at the end
abbrev pub with_scope : ScopeData → Scoped → Scoped
with_scope x s = record s { scopes = s.scopes ++ x ∷ [] }

-- the same of a scope that the node opens
abbrev pub with_opened_scope : NodeId → ScopeId → ScopeData → Scoped → Scoped
with_opened_scope n i x s = record s { scopes = s.scopes ++ x ∷ []; opened = insert_entry nat_cmp s.opened n.0 i }

-- a symbol more, at the end, which its scope binds and the node declares
abbrev pub with_symbol : NodeId → SymbolId → SymbolData → Scoped → Scoped
with_symbol n i y s = record s {
  scopes = bound_at y.scope.0 y.name i s.scopes;
  symbols = s.symbols ++ y ∷ [];
  declared = insert_entry nat_cmp s.declared n.0 i;
}

-- a declaration more of that symbol
abbrev pub with_declaration : SymbolId → Redeclaration → Scoped → Scoped
with_declaration i d s = record s {
  symbols = declared_again i.0 d s.symbols;
  declared = insert_entry nat_cmp s.declared d.node.0 i;
}

-- a reference more, at the end
abbrev pub with_reference : ReferenceId → Reference → Scoped → Scoped
with_reference i r s = record s {
  references = s.references ++ record { reference = r; is_live = true } ∷ [];
  symbols = meant_by i r.symbol s.symbols;
  named = insert_entry nat_cmp s.named r.node.0 i;
}

-- without that reference
abbrev pub without_reference : ReferenceId → Scoped → Scoped
without_reference i s = record s {
  references = deleted_at i.0 s.references;
  symbols = forgotten_by i (meant_at s.references i.0) s.symbols;
}

-- ---- what holds of every such table

-- each of the elements is so
abbrev pub Each : {A : Type 0} → (A → Type 0) → List A → Type 0
Each P [] = Unit {0}
Each P (x ∷ xs) = P x × Each P xs

-- the scope around it is one of the first of so many scopes, and what it binds one of so many symbols
pub record IsScopeOf (scopes symbols : ℕ) (x : ScopeData) : Type 0 where
  pub inside : IfSome x.parent (λ p. p.0 < scopes)
  pub binds : Each (λ b. b.1.0 < symbols) x.bindings

-- There is a scope, and each number of a scope, a symbol or a reference has one in its list.
pub record IsSound (s : Scoped) : Type 0 where
  pub rooted : 0 < length s.scopes
  pub scopes : Each (IsScopeOf (length s.scopes) (length s.symbols)) s.scopes
  pub symbols : Each (λ y. y.scope.0 < length s.scopes) s.symbols
  pub bodies : Each (λ y. Each (λ x. x.0 < length s.scopes) y.bodies) s.symbols
  pub opened : Each (λ e. e.1.0 < length s.scopes) s.opened
  pub declared : Each (λ e. e.1.0 < length s.symbols) s.declared
  pub named : Each (λ e. e.1.0 < length s.references) s.named
