-- What is said of the name of a class is said of the symbol that is found.
use Rattle.std.proofs.Common.{◌≡◌, ◌∙◌, refl, sym, ap, ℕ, List, Option, None, Some, option_map, is_some}
use Rattle.std.specs.Prelude.{slice_get}
use Rattle.oxt_facts.specs.Told.{Use}
use Rattle.oxt_names.specs.declared.ids.SymbolId.{SymbolId}
use Rattle.oxt_scoping.specs.Entries.{SymbolData}
use Rattle.oxt_scoping.specs.Meant.{symbol_in}

pub use_found : (ys : List SymbolData) (o : Option SymbolId) (i : SymbolId) (e : Option SymbolData) (f : SymbolData → Use) (u : Use) → Some i ≡ o → symbol_in ys o ≡ e
    → option_map f (slice_get ys i.0) ≡ Some u → Some u ≡ option_map f e
use_found ys o i e f u found is h = sym h ∙ ap (option_map f) (ap (symbol_in ys) found ∙ is)

pub no_use : (ys : List SymbolData) (o : Option SymbolId) (e : Option SymbolData) (f : SymbolData → Use) → None ≡ o → symbol_in ys o ≡ e → None ≡ option_map f e
no_use ys o e f none is = ap (option_map f) (ap (symbol_in ys) none ∙ is)

pub ruleset uses = (use_found, no_use)

-- a number was found
number_there : (o : Option ℕ) → is_some o ≡ is_some (option_map (λ n. n) o)
number_there None = refl
number_there (Some n) = refl

pub some_found : (o e : Option ℕ) → option_map (λ n. n) o ≡ e → is_some o ≡ is_some e
some_found o e is = number_there o ∙ ap is_some is
