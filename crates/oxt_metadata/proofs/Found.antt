-- What is asked of a symbol is answered by the one that is found.
use Rattle.std.proofs.Common.{◌≡◌, ◌∙◌, sym, ap, Bool, not, Option, None, Some, option_map}
use Rattle.oxt_metadata.specs.Meant.{is_type_alone_at, is_value}
use Rattle.oxt_names.specs.declared.flags.SymbolFlags.{SymbolFlags}
use Rattle.oxt_scoping.specs.Entries.{SymbolData}

pub type_found : (y : Option SymbolData) (f : SymbolFlags) (b c : Bool) → option_map (λ (w : SymbolData). w.flags) y ≡ Some f → b ≡ is_value f → c ≡ not b → c ≡ is_type_alone_at y
type_found None f b c h is turned = absurd (cc)
type_found (Some y) f b c h is turned = let same : y.flags ≡ f = cc in turned ∙ ap not (is ∙ ap is_value (sym same))
