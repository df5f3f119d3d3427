-- What is known of the symbol that a name is bound to.
use Rattle.std.proofs.Common.{◌≡◌, ◌∙◌, refl, sym, ap, ℕ, zero, suc, List, [], ◌∷◌, Bool, false, IfOk, Option, Some, None, Result, Ok, Err}
use Rattle.std.proofs.Math.Path.{fun_ext}
use Rattle.std.specs.Prelude.{map, nat_lt, option_map, slice_get, slice_index_or}
use Rattle.std.specs.List.{list_any}
use Rattle.oxt_faults.specs.Hidden.{is_value, is_value_symbol, lies_within}
use Rattle.oxt_faults.specs.Captured.{Capture}
use Rattle.oxt_faults.specs.Moved.{capture_with, moved_capture}
use Rattle.oxt_faults.specs.Redeclared.{again_at, has_other, is_again, is_other, mark_by, own_names, redeclared_symbols}
use Rattle.oxt_fields.specs.Rules.{Rules}
use Rattle.oxt_names.specs.declared.flags.SymbolFlags.{SymbolFlags}
use Rattle.oxt_names.specs.declared.ids.ScopeId.{ScopeId}
use Rattle.oxt_names.specs.declared.ids.SymbolId.{SymbolId}
use Rattle.oxt_options.specs.Facts.{is_in}
use Rattle.oxt_scoping.specs.Entries.{SymbolData}
use Rattle.oxt_scoping.specs.Scoped.{Scoped}
use Rattle.oxt_scoping.specs.declared.entry.Redeclaration.{Redeclaration}
use Rattle.oxt_tree.specs.Doc.{Doc}

-- its scope
pub lies_so : (y : Option SymbolData) (x z : ScopeId) (b : Bool) → option_map (λ (w : SymbolData). w.scope) y ≡ Some z → b ≡ nat_lt x.0 z.0 → b ≡ lies_within x y
lies_so None x z b h is = absurd (cc)
lies_so (Some y) x z b h is = let same : y.scope ≡ z = cc in is ∙ ap (λ w. nat_lt x.0 w.0) (sym same)

-- that it is more than a type
pub value_so : (y : Option SymbolData) (f : SymbolFlags) (b : Bool) → option_map (λ (w : SymbolData). w.flags) y ≡ Some f → b ≡ is_value f → b ≡ is_value_symbol y
value_so None f b h is = absurd (cc)
value_so (Some y) f b h is = let same : y.flags ≡ f = cc in is ∙ ap is_value (sym same)

-- that it is declared again
pub other_so : (ns : ℕ → Bool) (y : Option SymbolData) (ds : List Redeclaration) (b : Bool) → option_map (λ (w : SymbolData). w.declarations) y ≡ Some ds → b ≡ list_any (is_other ns) ds
    → option_map (has_other ns) y ≡ Some b
other_so ns None ds b h is = absurd (cc)
other_so ns (Some y) ds b h is = let same : y.declarations ≡ ds = cc in ap (λ c. Some c) (ap (list_any (is_other ns)) same ∙ sym is)

-- ---- what is noted of each symbol, and what it is noted of

again_mark : (ns : ℕ → Bool) (ys : List SymbolData) (i : ℕ) → slice_index_or (map (has_other ns) ys) i false ≡ again_at ns (slice_get ys i)
again_mark ns [] i = refl
again_mark ns (y ∷ ys) zero = refl
again_mark ns (y ∷ ys) (suc i) = again_mark ns ys i

mark_is : (s : Scoped) (ns : ℕ → Bool) (i : Option SymbolId) → mark_by (redeclared_symbols s ns) i ≡ is_again s ns i
mark_is s ns None = refl
mark_is s ns (Some i) = again_mark ns s.symbols i.0

-- The marks say the same.
same_marks : (s : Scoped) (r : Rules) (d : Doc) (ns : List ℕ) (bs : List Bool) → ns ≡ own_names d → bs ≡ redeclared_symbols s (is_in ns) → capture_with s r (mark_by bs) d ≡ moved_capture s r d
same_marks s r d ns bs own are =
    ap (λ cs. capture_with s r (mark_by cs) d) are ∙ ap (λ g. capture_with s r g d) (fun_ext (mark_is s (is_in ns)))
    ∙ ap (λ ms. capture_with s r (is_again s (is_in ms)) d) own

pub again_found : {A E : Type 0} (f : A → Option Capture) (x : Result A E) (s : Scoped) (r : Rules) (d : Doc) (ns : List ℕ) (bs : List Bool) → ns ≡ own_names d → bs ≡ redeclared_symbols s (is_in ns)
    → IfOk x (λ a. f a ≡ capture_with s r (mark_by bs) d) → IfOk x (λ a. f a ≡ moved_capture s r d)
again_found f (Ok a) s r d ns bs own are is = is ∙ same_marks s r d ns bs own are
again_found f (Err e) s r d ns bs own are is = tt
