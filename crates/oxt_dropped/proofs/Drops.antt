-- The blocks that are dropped, by a set of the symbols that are needed.
use Rattle.std.proofs.Common.{◌≡◌, ◌∙◌, sym, ap, ℕ, List, [], Bool, true, false, not, ◌&&◌, cond, Result, Ok, Err, IfOk, Vec, Global}
use Rattle.oxt_dropped.specs.DroppedEnums.{both_need, dropped, dropped_by}
use Rattle.oxt_dropped.specs.Needed.{needed}
use Rattle.oxt_inline.specs.Values.{optimizes}
use Rattle.oxt_options.specs.Facts.{is_in}
use Rattle.oxt_options.specs.Lists.{numbers_in}
use Rattle.oxt_options.specs.Options.{TypeScriptData}
use Rattle.oxt_scoping.specs.Scoped.{Scoped}
use Rattle.oxt_tree.specs.Doc.{Doc}
use Rattle.oxt_tree.specs.Syntax.{is_definition_file}
use Rattle.oxt_names.specs.declared.ids.NodeId.{NodeId}

-- the set has what is needed
by_needs : (ns : List ℕ) (s : Scoped) (ks zs : ℕ → Bool) (d : Doc) (o : TypeScriptData) (l : Bool) → ((n : ℕ) → is_in ns n ≡ is_in (needed s ks d o l) n) → optimizes o ≡ true → is_definition_file d ≡ false → dropped_by (both_need (is_in ns) zs) s d o l ≡ dropped s ks zs d o l
by_needs ns s ks zs d o l same on source =
    ap (λ p. dropped_by (both_need p zs) s d o l) (λ j n. same n j)
    ∙ sym (ap (λ b. cond (b && not (is_definition_file d)) (dropped_by (both_need (is_in (needed s ks d o l)) zs) s d o l) []) on
    ∙ ap (λ b. cond (not b) (dropped_by (both_need (is_in (needed s ks d o l)) zs) s d o l) []) source)

pub ok_by_needs : {E : Type 0} (r : Result (Vec NodeId Global) E) (ns : List ℕ) (s : Scoped) (ks zs : ℕ → Bool) (d : Doc) (o : TypeScriptData) (l : Bool) → ((n : ℕ) → is_in ns n ≡ is_in (needed s ks d o l) n) → optimizes o ≡ true → is_definition_file d ≡ false → IfOk r (λ v. numbers_in v.items ≡ dropped_by (both_need (is_in ns) zs) s d o l) → IfOk r (λ v. numbers_in v.items ≡ dropped s ks zs d o l)
ok_by_needs (Ok v) ns s ks zs d o l same on source h = h ∙ by_needs ns s ks zs d o l same on source
ok_by_needs (Err e) ns s ks zs d o l same on source h = h
