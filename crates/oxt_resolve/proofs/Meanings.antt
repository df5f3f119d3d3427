-- References, and the symbols that they mean.
use Rattle.std.proofs.Common.{◌≡◌, ◌∙◌, refl, sym, ap, subst, ℕ, zero, suc, ◌+◌, List, [], ◌∷◌, ◌++◌, length, map, fold, append_assoc, append-nil, Bool, true, false, cond, Option, Some, None, IfSome, true≢false, arith}
use Rattle.std.proofs.lemmas.Bool.{eqb-true, eq-eqb}
use Rattle.std.specs.Prelude.{◌==◌, option_map, slice_get}
use Rattle.oxt_resolve.specs.Laws.{KnowsUses, MeansOwners, is_symbol, live_slot, uses_from, uses_of}
use Rattle.oxt_resolve.specs.Marks.{marks_of}
use Rattle.oxt_resolve.specs.Resolved.{Values, all_declared, all_enums, all_opened, all_used, declared_as, declared_table, enum_as, group_of, opened_in, part_of, reference_of, root_of, scope_of_number, symbol_of, taken_in, values_of, with_body, with_declarations, with_declared, with_enum, with_enums, with_opened, with_used, with_value}
use Rattle.oxt_resolve.proofs.Holding.{before_uses}
use Rattle.oxt_declares.specs.Declarations.{Declared}
use Rattle.oxt_resolve.specs.declared.enums.EnumPart.{EnumPart}
use Rattle.oxt_resolve.specs.declared.enums.EnumPart.TheVariants as part
use Rattle.oxt_names.specs.Constant.{Constant}
use Rattle.oxt_scopes.specs.Owners.{Owned, owners_of}
use Rattle.oxt_scopes.specs.Scopes.{number_of}
use Rattle.oxt_resolve.specs.Flags.{redeclared}
use Rattle.oxt_scopes.specs.Nestings.{Opened, scopes_of}
use Rattle.oxt_scopes.specs.declared.standing.Standing.{Standing}
use Rattle.oxt_scoping.specs.Entries.{ScopeData, SymbolData}
use Rattle.oxt_scoping.specs.Scoped.{Each, Scoped, binding_at, changed_at, meant_by}
use Rattle.oxt_scoping.specs.declared.entry.Redeclaration.{Redeclaration}
use Rattle.oxt_scoping.specs.declared.entry.Slot.{Slot}
use Rattle.oxt_names.specs.declared.flags.ScopeFlags.{ScopeFlags}
use Rattle.oxt_names.specs.declared.ids.ReferenceId.{ReferenceId}
use Rattle.oxt_names.specs.declared.ids.ScopeId.{ScopeId}
use Rattle.oxt_names.specs.declared.ids.SymbolId.{SymbolId}
use Rattle.oxt_tree.specs.Doc.{Doc}

-- ---- each reference

-- what a name comes to in a table
abbrev slot_in : List ScopeData → List (ℕ × ScopeId) → Owned → Slot
slot_in xs es o = live_slot (reference_of (record { scopes = xs; symbols = []; references = []; opened = es; declared = []; named = []; taken = [] }) o)

slot_same : (s : Scoped) (o : Owned) → live_slot (reference_of s o) ≡ slot_in s.scopes s.opened o
slot_same s o = ap (λ g. live_slot (record { node = record { 0 = o.node }; symbol = g; flags = (reference_of s o).flags })) (by o.owner o.name)
  where
    by : (p : Option ℕ) (t : List ℕ) → group_of p t s ≡ group_of p t (record { scopes = s.scopes; symbols = []; references = []; opened = s.opened; declared = []; named = []; taken = [] })
    by None t = refl
    by (Some n) t = refl

scopes_stay : (os : List Owned) (s : Scoped) → (all_used os s).scopes ≡ s.scopes
scopes_stay [] s = refl
scopes_stay (o ∷ os) s = scopes_stay os (with_used s o)

opened_stay : (os : List Owned) (s : Scoped) → (all_used os s).opened ≡ s.opened
opened_stay [] s = refl
opened_stay (o ∷ os) s = opened_stay os (with_used s o)

references_are : (os : List Owned) (s : Scoped) → (all_used os s).references ≡ s.references ++ map (slot_in s.scopes s.opened) os
references_are [] s = sym (append-nil s.references)
references_are (o ∷ os) s =
    references_are os (with_used s o)
    ∙ append_assoc s.references (live_slot (reference_of s o) ∷ []) (map (slot_in s.scopes s.opened) os)
    ∙ ap (λ q. s.references ++ q ∷ map (slot_in s.scopes s.opened) os) (slot_same s o)

map_same : {A B : Type 0} (f g : A → B) (xs : List A) → ((x : A) → f x ≡ g x) → map f xs ≡ map g xs
map_same f g [] h = refl
map_same f g (x ∷ xs) h = (λ j. h x j ∷ map_same f g xs h j)

-- nothing is used yet
opened_unused : (m : ℕ → ScopeFlags) (xs : List Opened) (s : Scoped) → (all_opened m xs s).references ≡ s.references
opened_unused m [] s = refl
opened_unused m (x ∷ xs) s = opened_unused m xs (with_opened m s x) ∙ by x.parent
  where
    by : (o : Option ℕ) → (opened_in m x o s).references ≡ s.references
    by None = refl
    by (Some n) = refl

declared_unused_one : (x : ScopeId) (t : List ℕ) (r : Redeclaration) (o : Option SymbolId) (s : Scoped) → (declared_as x t r o s).references ≡ s.references
declared_unused_one x t r None s = refl
declared_unused_one x t r (Some i) s = refl

declared_unused_each : (n : ℕ) (st : Standing) (ds : List Declared) (s : Scoped) → (fold (with_declared n st) s ds).references ≡ s.references
declared_unused_each n st [] s = refl
declared_unused_each n st (d ∷ ds) s = declared_unused_each n st ds (with_declared n st s d) ∙ declared_unused_one (scope_of_number n s) d.name (redeclared st d) (binding_at s.scopes (scope_of_number n s).0 d.name) s

declared_unused : (xs : List Opened) (s : Scoped) → (all_declared xs s).references ≡ s.references
declared_unused [] s = refl
declared_unused (x ∷ xs) s = declared_unused xs (with_declarations s x) ∙ declared_unused_each x.number x.standing x.declared s

body_unused : (x : ScopeId) (o : Option SymbolId) (s : Scoped) → (with_body x o s).references ≡ s.references
body_unused x None s = refl
body_unused x (Some i) s = refl

value_unused : (v : Option Constant) (o : Option SymbolId) (s : Scoped) → (with_value v o s).references ≡ s.references
value_unused None o s = refl
value_unused (Some v) None s = refl
value_unused (Some v) (Some i) s = refl

enum_unused_one : (values : Values) (n : ℕ) (d : Declared) (o : EnumPart) (s : Scoped) → (enum_as values n d o s).references ≡ s.references
enum_unused_one values n d part.Block s = body_unused (scope_of_number (number_of d.body) s) (symbol_of d.node s) s
enum_unused_one values n d part.Member s = value_unused (values n d.name) (symbol_of d.node s) s
enum_unused_one values n d part.Neither s = refl

enum_unused_each : (values : Values) (n : ℕ) (ds : List Declared) (s : Scoped) → (fold (with_enum values n) s ds).references ≡ s.references
enum_unused_each values n [] s = refl
enum_unused_each values n (d ∷ ds) s = enum_unused_each values n ds (with_enum values n s d) ∙ enum_unused_one values n d (part_of d.sort) s

enum_unused : (values : Values) (xs : List Opened) (s : Scoped) → (all_enums values xs s).references ≡ s.references
enum_unused values [] s = refl
enum_unused values (x ∷ xs) s = enum_unused values xs (with_enums values s x) ∙ enum_unused_each values x.number x.declared s

unused : (l : Bool) (d : Doc) → (declared_table l d).references ≡ []
unused l d =
    enum_unused (values_of l d) (scopes_of l d) (all_declared (scopes_of l d) (all_opened (marks_of d) (scopes_of l d) (root_of (marks_of d) (taken_in d) d)))
    ∙ declared_unused (scopes_of l d) (all_opened (marks_of d) (scopes_of l d) (root_of (marks_of d) (taken_in d) d)) ∙ opened_unused (marks_of d) (scopes_of l d) (root_of (marks_of d) (taken_in d) d)

means_in : (os : List Owned) (s : Scoped) → s.references ≡ [] → (all_used os s).references ≡ map (λ o. live_slot (reference_of (all_used os s) o)) os
means_in os s none =
    references_are os s ∙ ap (λ ss. ss ++ map (slot_in s.scopes s.opened) os) none
    ∙ map_same (slot_in s.scopes s.opened) (λ o. live_slot (reference_of (all_used os s) o)) os (λ o. ap (λ xs. slot_in xs s.opened o) (sym (scopes_stay os s)) ∙ ap (λ es. slot_in (all_used os s).scopes es o) (sym (opened_stay os s)) ∙ sym (slot_same (all_used os s) o))

pub means_owners : MeansOwners
means_owners l d = means_in (owners_of d) (declared_table l d) (unused l d)

-- ---- the references of each symbol

-- the symbol at each place knows what of these means it
abbrev Knows : List Slot → List SymbolData → Type 0
Knows ss ys = (i : ℕ) → IfSome (slice_get ys i) (λ y. y.references ≡ uses_of i ss)

abbrev one_use : Bool → ℕ → List ReferenceId
one_use b n = cond b (record { 0 = n } ∷ []) []

uses_more : (i n m : ℕ) (ss : List Slot) (q : Slot) → m ≡ n + length ss → uses_from i n (ss ++ q ∷ []) ≡ uses_from i n ss ++ one_use (is_symbol i q.reference.symbol) m
uses_more i n m [] q e = let same : n ≡ m = omega arith in ap (one_use (is_symbol i q.reference.symbol)) same
uses_more i n m (s ∷ ss) q e = by (is_symbol i s.reference.symbol) (uses_more i (suc n) m ss q (omega arith))
  where
    by : (b : Bool) → uses_from i (suc n) (ss ++ q ∷ []) ≡ uses_from i (suc n) ss ++ one_use (is_symbol i q.reference.symbol) m
        → cond b (record { 0 = n } ∷ uses_from i (suc n) (ss ++ q ∷ [])) (uses_from i (suc n) (ss ++ q ∷ [])) ≡ cond b (record { 0 = n } ∷ uses_from i (suc n) ss) (uses_from i (suc n) ss) ++ one_use (is_symbol i q.reference.symbol) m
    by true rest = ap (λ rs. record { 0 = n } ∷ rs) rest
    by false rest = rest

get_same : (f : SymbolData → SymbolData) (ys : List SymbolData) (i : ℕ) → slice_get (changed_at i f ys) i ≡ option_map f (slice_get ys i)
get_same f [] i = refl
get_same f (y ∷ ys) zero = refl
get_same f (y ∷ ys) (suc i) = get_same f ys i

get_other : (f : SymbolData → SymbolData) (ys : List SymbolData) (j i : ℕ) → (i ≡ j → ⊥) → slice_get (changed_at j f ys) i ≡ slice_get ys i
get_other f [] j i h = refl
get_other f (y ∷ ys) zero zero h = absurd (h refl)
get_other f (y ∷ ys) zero (suc i) h = refl
get_other f (y ∷ ys) (suc j) zero h = refl
get_other f (y ∷ ys) (suc j) (suc i) h = get_other f ys j i (λ e. h (ap (λ n. suc n) e))

known_same : (o : Option SymbolData) (rs qs : List ReferenceId) → qs ≡ rs → IfSome o (λ y. y.references ≡ rs) → IfSome o (λ y. y.references ≡ qs)
known_same None rs qs e h = tt
known_same (Some y) rs qs e h = h ∙ sym e

abbrev adding : ReferenceId → SymbolData → SymbolData
adding r y = record y { references = y.references ++ r ∷ [] }

known_more : (r : ReferenceId) (o : Option SymbolData) (rs qs : List ReferenceId) → qs ≡ rs ++ r ∷ [] → IfSome o (λ y. y.references ≡ rs) → IfSome (option_map (adding r) o) (λ y. y.references ≡ qs)
known_more r None rs qs e h = tt
known_more r (Some y) rs qs e h = ap (λ xs. xs ++ r ∷ []) h ∙ sym e

knows_one : (r : ReferenceId) (o : Option SymbolId) (q : Slot) (ss : List Slot) (ys : List SymbolData) → r.0 ≡ length ss → q.reference.symbol ≡ o → Knows ss ys → Knows (ss ++ q ∷ []) (meant_by r o ys)
knows_one r None q ss ys n m h i =
    known_same (slice_get ys i) (uses_of i ss) (uses_of i (ss ++ q ∷ []))
    (uses_more i 0 r.0 ss q (omega arith) ∙ ap (λ o. uses_of i ss ++ one_use (is_symbol i o) r.0) m ∙ append-nil (uses_of i ss)) (h i)
knows_one r (Some j) q ss ys n m h i = by (i == j.0) refl
  where
    ended : (b : Bool) → (i == j.0) ≡ b → uses_of i (ss ++ q ∷ []) ≡ uses_of i ss ++ one_use b r.0
    ended b e = uses_more i 0 r.0 ss q (omega arith) ∙ ap (λ o. uses_of i ss ++ one_use (is_symbol i o) r.0) m ∙ ap (λ c. uses_of i ss ++ one_use c r.0) e

    apart : (i == j.0) ≡ false → i ≡ j.0 → ⊥
    apart e p = true≢false (sym (eq-eqb i j.0 p) ∙ e)

    by : (b : Bool) → (i == j.0) ≡ b → IfSome (slice_get (changed_at j.0 (adding r) ys) i) (λ y. y.references ≡ uses_of i (ss ++ q ∷ []))
    by true e =
        subst (λ o. IfSome o (λ y. y.references ≡ uses_of i (ss ++ q ∷ [])))
        (sym (ap (λ k. slice_get (changed_at k (adding r) ys) i) (sym (eqb-true i j.0 e)) ∙ get_same (adding r) ys i))
        (known_more r (slice_get ys i) (uses_of i ss) (uses_of i (ss ++ q ∷ [])) (ended true e) (h i))
    by false e =
        subst (λ o. IfSome o (λ y. y.references ≡ uses_of i (ss ++ q ∷ [])))
        (sym (get_other (adding r) ys j.0 i (apart e)))
        (known_same (slice_get ys i) (uses_of i ss) (uses_of i (ss ++ q ∷ [])) (ended false e ∙ append-nil (uses_of i ss)) (h i))

knows_all : (os : List Owned) (s : Scoped) → Knows s.references s.symbols → Knows (all_used os s).references (all_used os s).symbols
knows_all [] s h = h
knows_all (o ∷ os) s h =
    knows_all os (with_used s o) (knows_one (record { 0 = length s.references }) (reference_of s o).symbol (live_slot (reference_of s o)) s.references s.symbols refl refl h)

each_get : (P : SymbolData → Type 0) (ys : List SymbolData) (i : ℕ) → Each P ys → IfSome (slice_get ys i) P
each_get P [] i h = tt
each_get P (y ∷ ys) zero h = h.0
each_get P (y ∷ ys) (suc i) h = each_get P ys i h.1

abbrev Unmeant : SymbolData → Type 0
Unmeant y = y.references ≡ []

unmeant : (l : Bool) (d : Doc) → Each Unmeant (declared_table l d).symbols
unmeant l d = before_uses Unmeant (λ t x r. refl) (λ r y h. h) (λ bs v y h. h) l d

pub knows_uses : KnowsUses
knows_uses l d =
    knows_all (owners_of d) (declared_table l d)
    (subst (λ (ss : List Slot). Knows ss (declared_table l d).symbols) (sym (unused l d)) (λ i. each_get Unmeant (declared_table l d).symbols i (unmeant l d)))
