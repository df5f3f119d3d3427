-- Private names of classes behind shared references.
use Rattle.std.proofs.Common.{ℕ, ◌+◌, ◌<◌, ◌≤◌, ◌≡◌, refl, sym, ap, ◌∙◌, List, [], ◌∷◌, ◌++◌, length, drop, get_or, fold, Option}
use Rattle.std.specs.List.{AllZip}
use Rattle.std.specs.declared.alloc.Global.{Global}
use Rattle.std.specs.declared.rc.Rc.{Rc}
use Rattle.oxt_names.proofs.Lists.{drop_at, drop_end}
use Rattle.oxt_facts.specs.Privates.{Privates, stored_in}
use Rattle.oxt_facts.specs.Shared.{all_shared}

all_shared-append : (rs qs : List (Rc Privates Global)) → all_shared (rs ++ qs) ≡ all_shared rs ++ all_shared qs
all_shared-append [] qs = refl
all_shared-append (r ∷ rs) qs = ap (λ cs. r.value ∷ cs) (all_shared-append rs qs)

-- one reference more
pub one_more : (rs qs : List (Rc Privates Global)) (r : Rc Privates Global) (cs : List Privates) (c : Privates) → r.value ≡ c → all_shared rs ≡ cs → qs ≡ rs ++ r ∷ [] → all_shared qs ≡ cs ++ c ∷ []
one_more rs qs r cs c e before is = ap all_shared is ∙ all_shared-append rs (r ∷ []) ∙ ap (λ v. v ++ r.value ∷ []) before ∙ ap (λ v. cs ++ v ∷ []) e

-- copies of references
pub same_shared : (rs qs : List (Rc Privates Global)) → AllZip (λ (r : Rc Privates Global) (q : Rc Privates Global). q.value ≡ r.value) rs qs → all_shared qs ≡ all_shared rs
same_shared [] [] h = refl
same_shared [] (q ∷ qs) h = absurd h
same_shared (r ∷ rs) [] h = absurd h
same_shared (r ∷ rs) (q ∷ qs) h = ap (λ v. v ∷ all_shared qs) h.0 ∙ ap (λ cs. r.value ∷ cs) (same_shared rs qs h.1)

pub no_further : (t : List ℕ) (found : Option (List ℕ)) (rs : List (Rc Privates Global)) (i : ℕ) → length rs ≤ i → fold (stored_in t) found (all_shared (drop i rs)) ≡ found
no_further t found rs i h = ap (λ qs. fold (stored_in t) found (all_shared qs)) (drop_end rs i h)

pub one_further : (t : List ℕ) (before after : Option (List ℕ)) (rs : List (Rc Privates Global)) (i : ℕ) (r : Rc Privates Global) → i < length rs → r ≡ get_or rs i r
    → after ≡ stored_in t before r.value
    → fold (stored_in t) before (all_shared (drop i rs)) ≡ fold (stored_in t) after (all_shared (drop (i + 1) rs))
one_further t before after rs i r h e is =
    ap (λ qs. fold (stored_in t) before (all_shared qs)) (drop_at rs i r h e)
    ∙ ap (λ found. fold (stored_in t) found (all_shared (drop (i + 1) rs))) (sym is)

-- the steps of the loop over the classes
pub ruleset steps = (one_further, no_further)
