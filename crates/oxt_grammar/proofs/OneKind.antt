-- Each kind has a name of its own.
use Rattle.std.proofs.Common.{◌≡◌, ◌∙◌, refl, sym, ap, List, [], ◌∷◌, Bool, true, false, Option, Some, bytes_eq}
use Rattle.std.specs.Prelude.{◌||◌, cond, find, is_some}
use Rattle.std.specs.List.{list_any}
use Rattle.std.proofs.lemmas.Slice.Eq.{bytes_eq-Decides}
use Rattle.oxt_grammar.proofs.EachKind.{kind_of, kind_of-name}
use Rattle.oxt_grammar.specs.Kinds.{name_of}
use Rattle.oxt_grammar.specs.Places.{same_kind}
use Rattle.oxt_grammar.specs.declared.kind.Kind.{Kind}

some_same : (j k : Kind) → Some j ≡ Some k → j ≡ k
some_same j k e = cc

-- kinds of one name are one
pub one_kind : (j k : Kind) → name_of j ≡ name_of k → j ≡ k
one_kind j k e = some_same j k (sym (kind_of-name j) ∙ (ap kind_of e ∙ kind_of-name k))

pub agreeing : (b c : Bool) → (b ≡ true → c ≡ true) → (c ≡ true → b ≡ true) → b ≡ c
agreeing true true f g = refl
agreeing true false f g = sym (f refl)
agreeing false true f g = g refl
agreeing false false f g = refl

-- a test that tells whether two kinds are one tells whether their names are
pub same_by_name : (j k : Kind) (b : Bool) → (b ≡ true → j ≡ k) → (j ≡ k → b ≡ true) → b ≡ same_kind j k
same_by_name j k b f g =
    agreeing b (same_kind j k) (λ e. (bytes_eq-Decides (name_of j) (name_of k)).1 (ap name_of (f e))) (λ e. g (one_kind j k ((bytes_eq-Decides (name_of j) (name_of k)).0 e)))

passed : (b : Bool) (k : Kind) (some : Bool) (rest : Option Kind) → some ≡ is_some rest → (b || some) ≡ is_some (cond b (Some k) rest)
passed true k some rest e = refl
passed false k some rest e = e

-- the first of a list that passes a test is there exactly where one passes it
pub some_found : (p : Kind → Bool) (ks : List Kind) → list_any p ks ≡ is_some (find p ks)
some_found p [] = refl
some_found p (k ∷ ks) = passed (p k) k (list_any p ks) (find p ks) (some_found p ks)
