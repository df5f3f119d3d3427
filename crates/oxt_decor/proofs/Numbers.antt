-- Which numbers are noted of names.
use Rattle.std.proofs.Common.{◌≡◌, refl, ◌∙◌, sym, ap, ℕ, List, [], ◌∷◌, ◌++◌}
use Rattle.oxt_decor.specs.Named.{as_number, each_numbered, name_noted, numbered}
use Rattle.oxt_visit.specs.Calls.{Call, visited, entered, left, traces}

as_number_both : (ns ms : List ℕ) → as_number (ns ++ ms) ≡ as_number ns ++ as_number ms
as_number_both [] ms = refl
as_number_both (n ∷ ns) ms = ap (λ cs. entered n ∷ cs) (as_number_both ns ms)

-- one more is noted last
pub one_noted : (ns : List ℕ) (n : ℕ) → as_number (ns ++ n ∷ []) ≡ as_number ns ++ entered n ∷ []
one_noted ns n = as_number_both ns (n ∷ [])

noted_of : (c : Call) → name_noted c ≡ as_number (numbered c)
noted_of (visited d e) = refl
noted_of (entered n) = refl
noted_of left = refl

all_traced : (cs : List Call) → traces name_noted cs ≡ as_number (each_numbered cs)
all_traced [] = refl
all_traced (c ∷ cs) =
    ap (λ x. x ++ traces name_noted cs) (noted_of c)
    ∙ (ap (λ x. as_number (numbered c) ++ x) (all_traced cs)
    ∙ sym (as_number_both (numbered c) (each_numbered cs)))

as_number_same : (ns ms : List ℕ) → as_number ns ≡ as_number ms → ns ≡ ms
as_number_same ns ms same = sym (read_back ns) ∙ ap each_entered same ∙ read_back ms where
  each_entered : List Call → List ℕ
  each_entered [] = []
  each_entered (entered n ∷ cs) = n ∷ each_entered cs
  each_entered (visited d e ∷ cs) = each_entered cs
  each_entered (left ∷ cs) = each_entered cs

  read_back : (ns : List ℕ) → each_entered (as_number ns) ≡ ns
  read_back [] = refl
  read_back (n ∷ ns) = ap (λ ms. n ∷ ms) (read_back ns)

-- the numbers that are noted are those of the names that were visited
pub all_noted : (ns : List ℕ) (cs : List Call) → as_number ns ≡ traces name_noted cs → ns ≡ each_numbered cs
all_noted ns cs same = as_number_same ns (each_numbered cs) (same ∙ all_traced cs)
