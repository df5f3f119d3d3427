-- What is needed by a table of constants is what is needed; what is said of a symbol is said of the one that is found.
use Rattle.std.proofs.Common.{◌≡◌, ◌∙◌, ap, ℕ, List, Bool, ◌&&◌, Option, None, Some, option_map, Result, Ok, Err, IfOk, Vec, Global, map}
use Rattle.std.specs.Prelude.{is_some, slice_get}
use Rattle.oxt_dropped.specs.Needed.{emits_by, is_enum_emitted, needed, needed_with, number_of, value_of}
use Rattle.oxt_inline.proofs.Tables.{same_named}
use Rattle.oxt_inline.specs.Constants.{constants_in}
use Rattle.oxt_inline.specs.Values.{Named}
use Rattle.oxt_names.specs.Constant.{Constant}
use Rattle.oxt_names.specs.declared.flags.SymbolFlags.{SymbolFlags}
use Rattle.oxt_names.specs.declared.ids.SymbolId.{SymbolId}
use Rattle.oxt_options.specs.Options.{TypeScriptData}
use Rattle.oxt_scoping.specs.Entries.{SymbolData, is_enum}
use Rattle.oxt_scoping.specs.Meant.{symbol_in}
use Rattle.oxt_scoping.specs.Scoped.{Scoped}
use Rattle.oxt_scoping.specs.declared.entry.Redeclaration.{Redeclaration}
use Rattle.oxt_tree.specs.Doc.{Doc}

-- the constant of a symbol that is there
value_is : (o : Option SymbolData) (v : Option Constant) → option_map (λ (y : SymbolData). y.value) o ≡ Some v → v ≡ value_of o
value_is None v h = cc
value_is (Some y) v h = cc

-- whether the symbol that was found has one
pub has_found : (ys : List SymbolData) (o : Option SymbolId) (i : SymbolId) (v : Option Constant) → Some i ≡ o → option_map (λ (y : SymbolData). y.value) (slice_get ys i.0) ≡ Some v → is_some v ≡ is_some (value_of (symbol_in ys o))
has_found ys o i v found is = ap is_some (value_is (slice_get ys i.0) v is ∙ ap (λ p. value_of (symbol_in ys p)) found)

pub ruleset value_steps = (has_found)

-- that it is an enum and a declaration of it emits code
pub emitted_found : (n : ℕ) (y : Option SymbolData) (f : SymbolFlags) (ds : List Redeclaration) → option_map (λ (z : SymbolData). z.flags) y ≡ Some f → option_map (λ (z : SymbolData). z.declarations) y ≡ Some ds → option_map (is_enum_emitted n) y ≡ Some (is_enum f && emits_by ds n)
emitted_found n None f ds h is = absurd (cc)
emitted_found n (Some y) f ds h is =
    let flags : y.flags ≡ f = cc in
    let declared : y.declarations ≡ ds = cc in
    ap (λ g. Some (is_enum g && emits_by y.declarations n)) flags ∙ ap (λ es. Some (is_enum f && emits_by es n)) declared

pub ruleset emitted_steps = (emitted_found)

pub needed_by_table : {E : Type 0} (r : Result (Vec SymbolId Global) E) (c : Named) (s : Scoped) (ks : ℕ → Bool) (d : Doc) (o : TypeScriptData) (l : Bool) → ((e : ℕ) (x : List ℕ) → c e x ≡ constants_in s d e x) → IfOk r (λ v. map number_of v.items ≡ needed_with c s ks d o l) → IfOk r (λ v. map number_of v.items ≡ needed s ks d o l)
needed_by_table (Ok v) c s ks d o l same h = h ∙ ap (λ n. needed_with n s ks d o l) (same_named c s d same)
needed_by_table (Err e) c s ks d o l same h = h
