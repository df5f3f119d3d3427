-- What holds of the table of every document.
use Rattle.std.specs.Prelude.{ℕ, suc, ◌≡◌, List, [], ◌∷◌, map, fold, Bool, true, false, ◌==◌, if◌then◌else◌, Option, None, Some, IfSome, slice_get}
use Rattle.oxt_tree.specs.Doc.{Doc}
use Rattle.oxt_scopes.specs.Owners.{owners_of}
use Rattle.oxt_scoping.specs.Entries.{SymbolData}
use Rattle.oxt_scoping.specs.Scoped.{Each}
use Rattle.oxt_scoping.specs.declared.entry.Redeclaration.{Redeclaration}
use Rattle.oxt_scoping.specs.declared.entry.Reference.{Reference}
use Rattle.oxt_scoping.specs.declared.entry.Slot.{Slot}
use Rattle.oxt_names.specs.declared.flags.SymbolFlags.{SymbolFlags}
use Rattle.oxt_names.specs.declared.ids.ReferenceId.{ReferenceId}
use Rattle.oxt_names.specs.declared.ids.SymbolId.{SymbolId}
use Rattle.oxt_resolve.specs.Flags.{joined, symbol_flag}
use Rattle.oxt_resolve.specs.Resolved.{reference_of, resolved}

-- a reference that was not deleted
abbrev pub live_slot : Reference → Slot
live_slot r = record { reference = r; is_live = true }

-- Each reference is a name that is used, and means the symbol of its spelling that is bound in the scope
-- that owns it.
abbrev pub MeansOwners : Type 0
MeansOwners = (l : Bool) (d : Doc) → (resolved l d).references ≡ map (λ o. live_slot (reference_of (resolved l d) o)) (owners_of d)

-- the flags of these declarations, all together
abbrev pub all_flags : List Redeclaration → SymbolFlags
all_flags rs = fold (λ f r. joined f r.flags) (symbol_flag 0) rs

abbrev pub HasAllFlags : SymbolData → Type 0
HasAllFlags y = y.flags ≡ all_flags y.declarations

-- The flags of a symbol are those of its declarations together.
abbrev pub JoinsFlags : Type 0
JoinsFlags = (l : Bool) (d : Doc) → Each HasAllFlags (resolved l d).symbols

abbrev pub is_symbol : ℕ → Option SymbolId → Bool
is_symbol i None = false
is_symbol i (Some y) = i == y.0

-- the numbers of those references from that number on that mean the symbol
abbrev pub uses_from : ℕ → ℕ → List Slot → List ReferenceId
uses_from i n [] = []
uses_from i n (s ∷ ss) = if is_symbol i s.reference.symbol then record { 0 = n } ∷ uses_from i (suc n) ss else uses_from i (suc n) ss

abbrev pub uses_of : ℕ → List Slot → List ReferenceId
uses_of i ss = uses_from i 0 ss

-- A symbol knows the references that mean it, in the order of the text.
abbrev pub KnowsUses : Type 0
KnowsUses = (l : Bool) (d : Doc) (i : ℕ) → IfSome (slice_get (resolved l d).symbols i) (λ y. y.references ≡ uses_of i (resolved l d).references)
