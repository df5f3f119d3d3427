-- A list of nodes, and the set of its numbers, with one node more.
use Rattle.std.proofs.Common.{◌≡◌, ◌∙◌, refl, sym, ap, ℕ, List, [], ◌∷◌, ◌++◌, Bool, true, false, cond, ◌||◌, arith}
use Rattle.std.proofs.lemmas.List.{map-append}
use Rattle.std.proofs.lemmas.List.Folds.{list_any-append}
use Rattle.std.specs.Prelude.{nat_eq}
use Rattle.std.specs.List.{list_any}
use Rattle.oxt_options.specs.Facts.{is_in}
use Rattle.oxt_options.specs.Lists.{numbers_in}
use Rattle.oxt_names.specs.declared.ids.NodeId.{NodeId}

-- a number more
pub one_more : (old new : List NodeId) (n : NodeId) → new ≡ old ++ n ∷ [] → numbers_in new ≡ numbers_in old ++ n.0 ∷ []
one_more old new n is = ap numbers_in is ∙ map-append (λ m. m.0) old (n ∷ [])

same_test : (k n : ℕ) → nat_eq k n ≡ nat_eq n k
same_test k n = grind arith

-- found first or found at last
either_way : (a b : Bool) → cond a true b ≡ (b || (a || false))
either_way true true = refl
either_way true false = refl
either_way false true = refl
either_way false false = refl

-- the set and the list have the same numbers again
pub one_known : (old new : List ℕ) (ns : List ℕ) (k : ℕ) → ((n : ℕ) → list_any (nat_eq n) new ≡ cond (nat_eq k n) true (list_any (nat_eq n) old))
    → ((n : ℕ) → is_in old n ≡ is_in ns n) → (n : ℕ) → is_in new n ≡ is_in (ns ++ k ∷ []) n
one_known old new ns k updated known n =
    updated n ∙ ap (cond (nat_eq k n) true) (known n) ∙ either_way (nat_eq k n) (is_in ns n)
    ∙ ap (λ b. is_in ns n || (b || false)) (same_test k n) ∙ sym (list_any-append (nat_eq n) ns (k ∷ []))

pub ruleset node_steps = (one_more, one_known)
