-- What one call makes of the table.
use Rattle.std.proofs.Common.{◌≡◌, ◌∙◌, refl, ap, ℕ, zero, suc, List, [], ◌∷◌, ◌++◌, length, Option, Some, None}
use Rattle.std.specs.Prelude.{option_map, slice_get}
use Rattle.oxt_resolve.specs.Flags.{joined, usage_flags}
use Rattle.oxt_resolve.specs.Resolved.{again, again_in, declared_as, flags_of_scope, flags_within, group_of, opened_within, with_used}
use Rattle.oxt_scopes.specs.Owners.{Owned}
use Rattle.oxt_scopes.specs.Nestings.{Opened}
use Rattle.oxt_scoping.specs.Entries.{ScopeData, SymbolData}
use Rattle.oxt_scoping.specs.Scoped.{Scoped, changed_at, new_scope, new_symbol, with_declaration, with_opened_scope, with_reference, with_symbol, with_symbol_flags}
use Rattle.oxt_scoping.specs.declared.entry.Redeclaration.{Redeclaration}
use Rattle.oxt_names.specs.declared.flags.ReferenceFlags.{ReferenceFlags}
use Rattle.oxt_names.specs.declared.flags.ScopeFlags.{ScopeFlags}
use Rattle.oxt_names.specs.declared.flags.SymbolFlags.{SymbolFlags}
use Rattle.oxt_names.specs.declared.ids.ReferenceId.{ReferenceId}
use Rattle.oxt_names.specs.declared.ids.ScopeId.{ScopeId}
use Rattle.oxt_names.specs.declared.ids.SymbolId.{SymbolId}
use Rattle.oxt_names.specs.declared.ids.NodeId.{NodeId}

flags_found : (o : Option ScopeData) (g : ScopeFlags) → option_map (λ x. x.flags) o ≡ Some g → g ≡ flags_of_scope o
flags_found None g h = cc
flags_found (Some x) g h = cc

-- a scope was opened
pub opened_is : (marks : ℕ → ScopeFlags) (x : Opened) (s t : Scoped) (n : NodeId) (i p : ScopeId) (f g : ScopeFlags) → t ≡ with_opened_scope n i (new_scope (Some p) f) s → i.0 ≡ length s.scopes → n.0 ≡ x.number
    → f ≡ flags_within marks x g → option_map (λ y. y.flags) (slice_get s.scopes p.0) ≡ Some g → t ≡ opened_within marks x p s
opened_is marks x s t n i p f g made number node flags around =
    made ∙ (λ j. with_opened_scope (record { 0 = node j }) (record { 0 = number j }) (new_scope (Some p) (flags j)) s)
    ∙ ap (λ h. with_opened_scope (record { 0 = x.number }) (record { 0 = length s.scopes }) (new_scope (Some p) (flags_within marks x h)) s) (flags_found (slice_get s.scopes p.0) g around)

-- a symbol was made
pub declared_is : (x : ScopeId) (t m : List ℕ) (r : Redeclaration) (s u : Scoped) (i : SymbolId) → u ≡ with_symbol r.node i (new_symbol m x r.flags r) s → i.0 ≡ length s.symbols → m ≡ t → u ≡ declared_as x t r None s
declared_is x t m r s u i made number name = made ∙ (λ j. with_symbol r.node (record { 0 = number j }) (new_symbol (name j) x r.flags r) s)

flagged_again : (r : Redeclaration) (f : SymbolFlags) (ys : List SymbolData) (i : ℕ) → option_map (λ y. y.flags) (slice_get ys i) ≡ Some f
    → changed_at i (λ y. record y { flags = joined f r.flags }) (changed_at i (λ y. record y { declarations = y.declarations ++ r ∷ [] }) ys) ≡ changed_at i (again r) ys
flagged_again r f [] i h = refl
flagged_again r f (y ∷ ys) zero h = let e : f ≡ y.flags = cc in ap (λ g. (record y { flags = joined g r.flags; declarations = y.declarations ++ r ∷ [] }) ∷ ys) e
flagged_again r f (y ∷ ys) (suc i) h = ap (λ zs. y ∷ zs) (flagged_again r f ys i h)

abbrev with_symbols : Scoped → List SymbolData → Scoped
with_symbols s ys = record s { symbols = ys }

-- a symbol was declared again
pub again_is : (i : SymbolId) (r : Redeclaration) (s u v : Scoped) (f g : SymbolFlags) → u ≡ with_declaration i r s → v ≡ record u { symbols = with_symbol_flags i.0 g u.symbols } → g ≡ joined f r.flags
    → option_map (λ y. y.flags) (slice_get s.symbols i.0) ≡ Some f → v ≡ again_in i r s
again_is i r s u v f g declared flagged flags was =
    flagged ∙ ap (λ h. with_symbols u (with_symbol_flags i.0 h u.symbols)) flags ∙ ap (λ w. with_symbols w (with_symbol_flags i.0 (joined f r.flags) w.symbols)) declared
    ∙ ap (with_symbols (with_declaration i r s)) (flagged_again r f s.symbols i.0 was)

-- a reference was made
pub referred_is : (o : Owned) (s t : Scoped) (n : NodeId) (i : ReferenceId) (y : Option SymbolId) (f : ReferenceFlags) → t ≡ with_reference i (record { node = n; symbol = y; flags = f }) s
    → i.0 ≡ length s.references → n.0 ≡ o.node → y ≡ group_of o.owner o.name s → f ≡ usage_flags o.usage → t ≡ with_used s o
referred_is o s t n i y f made number node group flags =
    made ∙ (λ j. with_reference (record { 0 = number j }) (record { node = record { 0 = node j }; symbol = group j; flags = flags j }) s)
