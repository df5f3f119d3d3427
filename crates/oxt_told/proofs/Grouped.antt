-- The groups of names.
use Rattle.std.proofs.Common.{◌≡◌, ◌∙◌, ap, ℕ, List, Option, None, Some, option_map}
use Rattle.std.specs.Prelude.{slice_get}
use Rattle.oxt_names.specs.declared.ids.SymbolId.{SymbolId}
use Rattle.oxt_scoping.specs.Entries.{SymbolData}
use Rattle.oxt_scoping.specs.Meant.{symbol_in}
use Rattle.oxt_told.specs.Symbols.{first_node, group_of}

-- the group of a symbol that is there
group_is : (o : Option SymbolData) (g : Option ℕ) → option_map (λ y. first_node y.declarations) o ≡ Some g → g ≡ group_of o
group_is None g h = cc
group_is (Some y) g h = cc

pub group_found : (ys : List SymbolData) (o : Option SymbolId) (i : SymbolId) (g : Option ℕ) (y : Option SymbolData) → Some i ≡ o → symbol_in ys o ≡ y → option_map (λ y. first_node y.declarations) (slice_get ys i.0) ≡ Some g → g ≡ group_of y
group_found ys o i g y found is h = group_is (slice_get ys i.0) g h ∙ ap group_of (ap (symbol_in ys) found ∙ is)

pub no_group : (ys : List SymbolData) (o : Option SymbolId) (y : Option SymbolData) → None ≡ o → symbol_in ys o ≡ y → None ≡ group_of y
no_group ys o y none is = ap group_of (ap (symbol_in ys) none ∙ is)
