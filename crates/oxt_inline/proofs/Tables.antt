-- What is found by a table of constants is what is found by the constants.
use Rattle.std.proofs.Common.{◌≡◌, ◌∙◌, sym, ap, ℕ, List, [], Bool, true, cond, Result, Ok, Err, IfOk, Vec, Global}
use Rattle.oxt_inline.specs.Constants.{constants_in}
use Rattle.oxt_inline.specs.Inlined.{inlined, inlined_with}
use Rattle.oxt_inline.specs.Values.{Named, optimizes}
use Rattle.oxt_names.specs.declared.constant.ConstantValue.{ConstantValue}
use Rattle.oxt_options.specs.Lists.{constants_in as listed}
use Rattle.oxt_options.specs.Options.{TypeScriptData}
use Rattle.oxt_scoping.specs.Scoped.{Scoped}
use Rattle.oxt_tree.specs.Doc.{Doc}
use Rattle.oxt_names.specs.declared.ids.NodeId.{NodeId}

-- constants that are the same of each name are the same
pub same_named : (c : Named) (s : Scoped) (d : Doc) → ((e : ℕ) (x : List ℕ) → c e x ≡ constants_in s d e x) → c ≡ constants_in s d
same_named c s d h = λ j e x. h e x j

pub inlined_by_table : {E : Type 0} (r : Result (Vec (NodeId × ConstantValue) Global) E) (c : Named) (s : Scoped) (ks : ℕ → Bool) (d : Doc) (o : TypeScriptData) → ((e : ℕ) (x : List ℕ) → c e x ≡ constants_in s d e x) → optimizes o ≡ true → IfOk r (λ v. listed v.items ≡ inlined_with c s ks d o) → IfOk r (λ v. listed v.items ≡ inlined s ks d o)
inlined_by_table (Ok v) c s ks d o same on h =
    h ∙ ap (λ n. inlined_with n s ks d o) (same_named c s d same) ∙ sym (ap (λ b. cond b (inlined_with (constants_in s d) s ks d o) []) on)
inlined_by_table (Err e) c s ks d o same on h = h
