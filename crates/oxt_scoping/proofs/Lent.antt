-- Tables of which a part is lent.
use Rattle.std.proofs.Common.{◌≡◌, refl, sym, ap, subst, ◌∙◌, ℕ, zero, suc, ◌<◌, List, [], ◌∷◌, length, get_or, Bool, true, false, if◌then◌else◌, Option, Some, None, IsSome, true≢false, arith}
use Rattle.std.specs.Prelude.{option_map, slice_get, slice_set}
use Rattle.oxt_names.specs.declared.flags.ScopeFlags.{ScopeFlags}
use Rattle.oxt_names.specs.declared.flags.SymbolFlags.{SymbolFlags}
use Rattle.oxt_scoping.specs.declared.entry.Reference.{Reference}
use Rattle.oxt_scoping.specs.declared.entry.Slot.{Slot}
use Rattle.oxt_scoping.specs.Entries.{ScopeData, SymbolData}
use Rattle.oxt_scoping.specs.Scoped.{Scoped, live, live_at, with_reference_at, with_scope_flags, with_symbol_flags}
use Rattle.oxt_scoping.proofs.Changes.{get_at, set_changed}

abbrev with_scopes : Scoped → List ScopeData → Scoped
with_scopes s xs = record s { scopes = xs }

abbrev with_symbols : Scoped → List SymbolData → Scoped
with_symbols s ys = record s { symbols = ys }

abbrev with_slots : Scoped → List Slot → Scoped
with_slots s rs = record s { references = rs }

pub scope_lent : (s v : Scoped) (i : ℕ) (x : ScopeData) (w : ScopeFlags) → s ≡ v → i < length s.scopes → x ≡ get_or s.scopes i x
    → with_scopes s (slice_set s.scopes i (record x { flags = w })) ≡ with_scopes v (with_scope_flags i w v.scopes)
scope_lent s v i x w is h at =
    ap (with_scopes s) (set_changed (λ (y : ScopeData). record y { flags = w }) s.scopes i x _ h at refl) ∙ ap (λ (u : Scoped). with_scopes u (with_scope_flags i w u.scopes)) is

pub scope_shown : (s v : Scoped) (i : ℕ) (x : ScopeData) (r : ScopeFlags) → s ≡ v → i < length s.scopes → x ≡ get_or s.scopes i x → r ≡ x.flags → option_map (λ y. y.flags) (slice_get v.scopes i) ≡ Some r
scope_shown s v i x r is h at e =
    subst (λ (u : Scoped). option_map (λ y. y.flags) (slice_get u.scopes i) ≡ Some r) is (ap (option_map (λ (y : ScopeData). y.flags)) (get_at s.scopes i x h at) ∙ ap (λ f. Some f) (sym e))

pub symbol_lent : (s v : Scoped) (i : ℕ) (x : SymbolData) (w : SymbolFlags) → s ≡ v → i < length s.symbols → x ≡ get_or s.symbols i x
    → with_symbols s (slice_set s.symbols i (record x { flags = w })) ≡ with_symbols v (with_symbol_flags i w v.symbols)
symbol_lent s v i x w is h at =
    ap (with_symbols s) (set_changed (λ (y : SymbolData). record y { flags = w }) s.symbols i x _ h at refl) ∙ ap (λ (u : Scoped). with_symbols u (with_symbol_flags i w u.symbols)) is

pub symbol_shown : (s v : Scoped) (i : ℕ) (x : SymbolData) (r : SymbolFlags) → s ≡ v → i < length s.symbols → x ≡ get_or s.symbols i x → r ≡ x.flags → option_map (λ y. y.flags) (slice_get v.symbols i) ≡ Some r
symbol_shown s v i x r is h at e =
    subst (λ (u : Scoped). option_map (λ y. y.flags) (slice_get u.symbols i) ≡ Some r) is (ap (option_map (λ (y : SymbolData). y.flags)) (get_at s.symbols i x h at) ∙ ap (λ f. Some f) (sym e))

pub live_within : (ss : List Slot) (i : ℕ) → IsSome (live_at ss i) → i < length ss
live_within [] i h = absurd (true≢false (sym h))
live_within (s ∷ ss) zero h = omega arith
live_within (s ∷ ss) (suc i) h = let k : i < length ss = live_within ss i h in omega arith

pub reference_lent : (s v : Scoped) (i : ℕ) (x : Slot) (w : Reference) → s ≡ v → i < length s.references → x ≡ get_or s.references i x
    → with_slots s (slice_set s.references i (record x { reference = w })) ≡ with_slots v (with_reference_at i w v.references)
reference_lent s v i x w is h at =
    ap (with_slots s) (set_changed (λ (y : Slot). record y { reference = w }) s.references i x _ h at refl) ∙ ap (λ (u : Scoped). with_slots u (with_reference_at i w u.references)) is

live_some : (b : Bool) (r : Reference) → IsSome (if b then Some r else None) → (if b then Some r else None) ≡ Some r
live_some true r h = refl
live_some false r h = absurd (true≢false (sym h))

pub reference_shown : (s v : Scoped) (i : ℕ) (x : Slot) → s ≡ v → i < length s.references → x ≡ get_or s.references i x → IsSome (live_at v.references i) → live_at v.references i ≡ Some x.reference
reference_shown s v i x is h at some =
    let e : live_at v.references i ≡ live (Some x) = ap (λ (u : Scoped). live_at u.references i) (sym is) ∙ ap live (get_at s.references i x h at) in
    e ∙ live_some x.is_live x.reference (subst (λ (o : Option Reference). IsSome o) e some)
