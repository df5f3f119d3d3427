-- Tests without places, by which an output needs no search for one.
use Rattle.std.proofs.Common.{◌≡◌, ℕ, List, [], ◌∷◌, length, Option, None, Some, IfSome, option_map, arith, refl, sym}
use Rattle.oxt_check.specs.Laws.{PlainBesideNothing}
use Rattle.oxt_check.specs.Targets.{is_listed}
use Rattle.oxt_grammar.specs.declared.category.Category.TheVariants as category
use Rattle.oxt_grammar.specs.declared.holds.Holds.TheVariants as holds
use Rattle.oxt_certificate.specs.Judges.{is_plain_output}
use Rattle.oxt_tree.specs.Doc.{Doc}
use Rattle.oxt_names.specs.Names.{name_bytes}
use Rattle.oxt_names.specs.declared.name.Name.{Name}
use Rattle.oxt_valid.specs.Plain.{is_plain}

-- the place that was found is the first one
pub place_is : (found : Option Name) (first : Option (List ℕ)) → option_map name_bytes found ≡ first → IfSome found (λ p. first ≡ Some (name_bytes p))
place_is None first is = tt
place_is (Some p) first is = sym is

-- where no wrapper may stay, plain beside them is plain
pub plain_alone : PlainBesideNothing → (ns : List ℕ) (d : Doc) → length ns ≡ 0 → is_plain_output ns d ≡ is_plain d
plain_alone law [] d none = law d (holds.Node category.Program) (is_listed []) (λ n. refl)
plain_alone law (n ∷ ns) d none = absurd (omega (arith, none))
