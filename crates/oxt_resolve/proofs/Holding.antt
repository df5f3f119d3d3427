-- What holds of each symbol of a table, whatever is done to it.
use Rattle.std.proofs.Common.{◌≡◌, ◌∙◌, sym, ap, ℕ, List, [], ◌∷◌, ◌++◌, fold, length, Option, Some, None, arith, Bool}
use Rattle.std.proofs.lemmas.List.Sums.{fold-append}
use Rattle.std.proofs.lemmas.Nat.{and_le_l, or_disjoint}
use Rattle.std.specs.Int.RustNames.{bit_and, bit_or}
use Rattle.oxt_declares.specs.Declarations.{Declared}
use Rattle.oxt_resolve.specs.declared.enums.EnumPart.{EnumPart}
use Rattle.oxt_resolve.specs.declared.enums.EnumPart.TheVariants as part
use Rattle.oxt_names.specs.Constant.{Constant}
use Rattle.oxt_resolve.specs.Flags.{joined, redeclared, symbol_flag}
use Rattle.oxt_resolve.specs.Laws.{HasAllFlags, JoinsFlags}
use Rattle.oxt_resolve.specs.Marks.{marks_of}
use Rattle.oxt_resolve.specs.Resolved.{Values, again, all_declared, all_enums, all_opened, all_used, declared_as, declared_table, enum_as, opened_in, part_of, reference_of, root_of, scope_of_number, symbol_of, taken_in, values_of, with_body, with_declarations, with_declared, with_enum, with_enums, with_opened, with_used, with_value}
use Rattle.oxt_scopes.specs.Owners.{Owned, owners_of}
use Rattle.oxt_scopes.specs.Scopes.{number_of}
use Rattle.oxt_scopes.specs.Nestings.{Opened, scopes_of}
use Rattle.oxt_scopes.specs.declared.standing.Standing.{Standing}
use Rattle.oxt_scoping.proofs.Sound.{each_changed, each_push}
use Rattle.oxt_scoping.specs.Entries.{SymbolData}
use Rattle.oxt_scoping.specs.Scoped.{Each, Scoped, binding_at, meant_by, new_symbol}
use Rattle.oxt_scoping.specs.declared.entry.Redeclaration.{Redeclaration}
use Rattle.oxt_names.specs.declared.flags.ScopeFlags.{ScopeFlags}
use Rattle.oxt_names.specs.declared.flags.SymbolFlags.{SymbolFlags}
use Rattle.oxt_names.specs.declared.ids.ReferenceId.{ReferenceId}
use Rattle.oxt_names.specs.declared.ids.ScopeId.{ScopeId}
use Rattle.oxt_names.specs.declared.ids.SymbolId.{SymbolId}
use Rattle.oxt_tree.specs.Doc.{Doc}

-- what holds of a new symbol, and stays with a declaration more
module _ (P : SymbolData → Type 0) (made : (t : List ℕ) (x : ScopeId) (r : Redeclaration) → P (new_symbol t x r.flags r)) (more : (r : Redeclaration) (y : SymbolData) → P y → P (again r y))
    (told : (bs : List ScopeId) (v : Option Constant) (y : SymbolData) → P y → P (record y { bodies = bs; value = v })) where
  opened_one : (m : ℕ → ScopeFlags) (x : Opened) (o : Option ℕ) (s : Scoped) → Each P s.symbols → Each P (opened_in m x o s).symbols
  opened_one m x None s h = h
  opened_one m x (Some n) s h = h

  opened_all : (m : ℕ → ScopeFlags) (xs : List Opened) (s : Scoped) → Each P s.symbols → Each P (all_opened m xs s).symbols
  opened_all m [] s h = h
  opened_all m (x ∷ xs) s h = opened_all m xs (with_opened m s x) (opened_one m x x.parent s h)

  declared_one : (x : ScopeId) (t : List ℕ) (r : Redeclaration) (o : Option SymbolId) (s : Scoped) → Each P s.symbols → Each P (declared_as x t r o s).symbols
  declared_one x t r None s h = each_push P s.symbols (new_symbol t x r.flags r) h (made t x r)
  declared_one x t r (Some i) s h = each_changed P (again r) s.symbols i.0 (λ y k. more r y k) h

  declared_each : (n : ℕ) (st : Standing) (ds : List Declared) (s : Scoped) → Each P s.symbols → Each P (fold (with_declared n st) s ds).symbols
  declared_each n st [] s h = h
  declared_each n st (d ∷ ds) s h = declared_each n st ds (with_declared n st s d) (declared_one (scope_of_number n s) d.name (redeclared st d) (binding_at s.scopes (scope_of_number n s).0 d.name) s h)

  declared_all : (xs : List Opened) (s : Scoped) → Each P s.symbols → Each P (all_declared xs s).symbols
  declared_all [] s h = h
  declared_all (x ∷ xs) s h = declared_all xs (with_declarations s x) (declared_each x.number x.standing x.declared s h)

  body_one : (x : ScopeId) (o : Option SymbolId) (s : Scoped) → Each P s.symbols → Each P (with_body x o s).symbols
  body_one x None s h = h
  body_one x (Some i) s h = each_changed P (λ y. record y { bodies = y.bodies ++ x ∷ [] }) s.symbols i.0 (λ y k. told (y.bodies ++ x ∷ []) y.value y k) h

  value_one : (v : Option Constant) (o : Option SymbolId) (s : Scoped) → Each P s.symbols → Each P (with_value v o s).symbols
  value_one None o s h = h
  value_one (Some v) None s h = h
  value_one (Some v) (Some i) s h = each_changed P (λ y. record y { value = Some v }) s.symbols i.0 (λ y k. told y.bodies (Some v) y k) h

  enum_one : (values : Values) (n : ℕ) (d : Declared) (o : EnumPart) (s : Scoped) → Each P s.symbols → Each P (enum_as values n d o s).symbols
  enum_one values n d part.Block s h = body_one (scope_of_number (number_of d.body) s) (symbol_of d.node s) s h
  enum_one values n d part.Member s h = value_one (values n d.name) (symbol_of d.node s) s h
  enum_one values n d part.Neither s h = h

  enum_each : (values : Values) (n : ℕ) (ds : List Declared) (s : Scoped) → Each P s.symbols → Each P (fold (with_enum values n) s ds).symbols
  enum_each values n [] s h = h
  enum_each values n (d ∷ ds) s h = enum_each values n ds (with_enum values n s d) (enum_one values n d (part_of d.sort) s h)

  enum_all : (values : Values) (xs : List Opened) (s : Scoped) → Each P s.symbols → Each P (all_enums values xs s).symbols
  enum_all values [] s h = h
  enum_all values (x ∷ xs) s h = enum_all values xs (with_enums values s x) (enum_each values x.number x.declared s h)

  -- it holds before the first reference
  pub before_uses : (l : Bool) (d : Doc) → Each P (declared_table l d).symbols
  before_uses l d =
      enum_all (values_of l d) (scopes_of l d) (all_declared (scopes_of l d) (all_opened (marks_of d) (scopes_of l d) (root_of (marks_of d) (taken_in d) d)))
      (declared_all (scopes_of l d) (all_opened (marks_of d) (scopes_of l d) (root_of (marks_of d) (taken_in d) d)) (opened_all (marks_of d) (scopes_of l d) (root_of (marks_of d) (taken_in d) d) tt))

-- what says nothing of references
module _ (P : SymbolData → Type 0) (kept : (rs : List ReferenceId) (y : SymbolData) → P y → P (record y { references = rs })) where
  meant_one : (r : ReferenceId) (o : Option SymbolId) (ys : List SymbolData) → Each P ys → Each P (meant_by r o ys)
  meant_one r None ys h = h
  meant_one r (Some i) ys h = each_changed P (λ y. record y { references = y.references ++ r ∷ [] }) ys i.0 (λ y k. kept (y.references ++ r ∷ []) y k) h

  pub used_all : (os : List Owned) (s : Scoped) → Each P s.symbols → Each P (all_used os s).symbols
  used_all [] s h = h
  used_all (o ∷ os) s h = used_all os (with_used s o) (meant_one (record { 0 = length s.references }) (reference_of s o).symbol s.symbols h)

none_joined : (f : SymbolFlags) → f ≡ joined (symbol_flag 0) f
none_joined f =
    let none = and_le_l 0 f.0 in
    let apart : bit_and 0 f.0 ≡ 0 = omega arith in
    let same : f.0 ≡ bit_or 0 f.0 = omega (arith, or_disjoint 0 f.0 apart) in
    ap (λ (n : ℕ). symbol_flag n) same

flags_made : (t : List ℕ) (x : ScopeId) (r : Redeclaration) → HasAllFlags (new_symbol t x r.flags r)
flags_made t x r = none_joined r.flags

flags_more : (r : Redeclaration) (y : SymbolData) → HasAllFlags y → HasAllFlags (again r y)
flags_more r y h = ap (λ f. joined f r.flags) h ∙ sym (fold-append (λ (f : SymbolFlags) (q : Redeclaration). joined f q.flags) (symbol_flag 0) y.declarations (r ∷ []))

pub joins_flags : JoinsFlags
joins_flags l d = used_all HasAllFlags (λ rs y h. h) (owners_of d) (declared_table l d) (before_uses HasAllFlags flags_made flags_more (λ bs v y h. h) l d)
