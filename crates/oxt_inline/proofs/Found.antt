-- What is said of a symbol is said of the one that is found.
use Rattle.std.proofs.Common.{◌≡◌, ◌∙◌, refl, sym, ap, ℕ, List, Bool, true, false, cond, Option, None, Some, option_map}
use Rattle.std.specs.Prelude.{slice_get}
use Rattle.oxt_inline.specs.Constants.{member, with_value}
use Rattle.oxt_inline.specs.Values.{Named, constant_in_enum, is_optimized, is_optimized_at}
use Rattle.oxt_names.specs.Constant.{Constant}
use Rattle.oxt_names.specs.declared.ids.SymbolId.{SymbolId}
use Rattle.oxt_options.specs.Options.{TypeScriptData}
use Rattle.oxt_scoping.specs.Entries.{SymbolData, begins_const}
use Rattle.oxt_scoping.specs.Meant.{symbol_in}
use Rattle.oxt_scoping.specs.Scoped.{Scoped}

-- a member with a constant
valued_is : (e : SymbolId) (o : Option SymbolData) (t : List ℕ) (v : Option Constant) → option_map (λ (y : SymbolData). y.name) o ≡ Some t → option_map (λ (y : SymbolData). y.value) o ≡ Some v → option_map (member e t) v ≡ with_value e o
valued_is e None t v h is = absurd (cc)
valued_is e (Some y) t v h is =
    let name : y.name ≡ t = cc in
    let value : y.value ≡ v = cc in
    ap (option_map (member e t)) (sym value) ∙ ap (λ u. option_map (member e u) y.value) (sym name)

-- the member that was found has one
pub valued_found : (e : SymbolId) (ys : List SymbolData) (o : Option SymbolId) (i : SymbolId) (t : List ℕ) (v : Constant) → Some i ≡ o → option_map (λ (y : SymbolData). y.name) (slice_get ys i.0) ≡ Some t → option_map (λ (y : SymbolData). y.value) (slice_get ys i.0) ≡ Some (Some v) → Some (member e t v) ≡ with_value e (symbol_in ys o)
valued_found e ys o i t v found name is = valued_is e (slice_get ys i.0) t (Some v) name is ∙ ap (λ p. with_value e (symbol_in ys p)) found

-- the member that was found has none
valueless_is : (e : SymbolId) (o : Option SymbolData) → option_map (λ (y : SymbolData). y.value) o ≡ Some None → None ≡ with_value e o
valueless_is e None is = refl
valueless_is e (Some y) is = let none : y.value ≡ None = cc in ap (option_map (member e y.name)) (sym none)

pub valueless_found : (e : SymbolId) (ys : List SymbolData) (o : Option SymbolId) (i : SymbolId) → Some i ≡ o → option_map (λ (y : SymbolData). y.value) (slice_get ys i.0) ≡ Some None → None ≡ with_value e (symbol_in ys o)
valueless_found e ys o i found is = valueless_is e (slice_get ys i.0) is ∙ ap (λ p. with_value e (symbol_in ys p)) found

pub ruleset valued_steps = (valued_found, valueless_found)

-- whether its members are inlined
pub optimized : (o : TypeScriptData) (y : Option SymbolData) (b : Bool) → option_map (λ (z : SymbolData). begins_const z.declarations) y ≡ Some b → option_map (is_optimized o) y ≡ Some (cond b o.optimize_const_enums o.optimize_enums)
optimized o None b h = absurd (cc)
optimized o (Some y) b h = let same : begins_const y.declarations ≡ b = cc in ap (λ c. Some (cond c o.optimize_const_enums o.optimize_enums)) same

-- the same where it may not be there
optimized_at : (o : TypeScriptData) (y : Option SymbolData) (b : Bool) → option_map (is_optimized o) y ≡ Some b → is_optimized_at o y ≡ b
optimized_at o None b h = absurd (cc)
optimized_at o (Some y) b h = cc

-- the constant of a member of an enum whose members are inlined
pub in_enum : (s : Scoped) (c : Named) (o : TypeScriptData) (x : List ℕ) (i : SymbolId) → option_map (is_optimized o) (slice_get s.symbols i.0) ≡ Some true → constant_in_enum s c o x (Some i) ≡ c i.0 x
in_enum s c o x i h = ap (λ b. cond b (c i.0 x) None) (optimized_at o (slice_get s.symbols i.0) true h)

-- of an enum whose members are not
pub in_other : (s : Scoped) (c : Named) (o : TypeScriptData) (x : List ℕ) (i : SymbolId) → option_map (is_optimized o) (slice_get s.symbols i.0) ≡ Some false → constant_in_enum s c o x (Some i) ≡ None
in_other s c o x i h = ap (λ b. cond b (c i.0 x) None) (optimized_at o (slice_get s.symbols i.0) false h)

pub ruleset enum_steps = (in_enum, in_other)
