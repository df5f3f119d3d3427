-- The kind that a category has by its name.
use Rattle.std.proofs.Common.{◌≡◌, refl, ap, List, [], ◌∷◌, Bool, true, false, Option, Some, bytes_eq}
use Rattle.std.specs.Prelude.{find, is_some, cond}
use Rattle.std.proofs.lemmas.Slice.Eq.{bytes_eq-Decides}
use Rattle.oxt_grammar.proofs.OneKind.{one_kind}
use Rattle.oxt_grammar.specs.Categories.{kinds_in}
use Rattle.oxt_grammar.specs.Kinds.{name_of}
use Rattle.oxt_grammar.specs.Places.{kind_in, kind_named}
use Rattle.oxt_grammar.specs.declared.category.Category.{Category}
use Rattle.oxt_grammar.specs.declared.kind.Kind.{Kind}

-- a kind that a category has by its name is the one that is found there
found_at : (b : Bool) (j k : Kind) (rest : Option Kind) → bytes_eq (name_of j) (name_of k) ≡ b → (is_some rest ≡ true → rest ≡ Some k) → is_some (cond b (Some j) rest) ≡ true → cond b (Some j) rest ≡ Some k
found_at true j k rest same later e = ap Some (one_kind j k ((bytes_eq-Decides (name_of j) (name_of k)).0 same))
found_at false j k rest same later e = later e

found : (ks : List Kind) (k : Kind) → is_some (find (λ j. bytes_eq (name_of j) (name_of k)) ks) ≡ true → find (λ j. bytes_eq (name_of j) (name_of k)) ks ≡ Some k
found [] k e = absurd (cc)
found (j ∷ ks) k e = found_at (bytes_eq (name_of j) (name_of k)) j k _ refl (found ks k) e

pub kind_found : (c : Category) (k : Kind) → kind_in c k ≡ true → kind_named (name_of k) c ≡ Some k
kind_found c k e = found (kinds_in c) k e
