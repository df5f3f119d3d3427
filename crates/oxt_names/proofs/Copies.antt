-- A copy of the table of taken names has the same names, and says the same of what was tried behind them.
use Rattle.std.proofs.Common.{ℕ, ◌≡◌, ◌∙◌, refl, sym, ap, subst, List, [], ◌∷◌, string_bytes}
use Rattle.std.specs.List.{AllZip}
use Rattle.oxt_names.specs.Tried.{Entry, spellings, TriedBelow, AllTried, IsTried}

-- the entry is a copy of the other
abbrev pub IsCopy : Entry → Entry → Type 0
IsCopy p q = (string_bytes q.0 ≡ string_bytes p.0) × (q.1 ≡ p.1)

pub copied_names : (es fs : List Entry) → AllZip IsCopy es fs → spellings fs ≡ spellings es
copied_names [] [] h = refl
copied_names [] (f ∷ fs) h = absurd h
copied_names (e ∷ es) [] h = absurd h
copied_names (e ∷ es) (f ∷ fs) h = ap (λ t. t ∷ spellings fs) h.0.0 ∙ ap (λ ts. string_bytes e.0 ∷ ts) (copied_names es fs h.1)

all_tried : (taken : List (List ℕ)) (es fs : List Entry) → AllZip IsCopy es fs → AllTried taken es → AllTried taken fs
all_tried taken [] [] h k = tt
all_tried taken [] (f ∷ fs) h k = absurd h
all_tried taken (e ∷ es) [] h k = absurd h
all_tried taken (e ∷ es) (f ∷ fs) h k =
    (subst (λ t. TriedBelow taken t f.1) (sym h.0.0) (subst (λ n. TriedBelow taken (string_bytes e.0) n) (sym h.0.1) k.0), all_tried taken es fs h.1 k.1)

pub copied_tried : (es fs : List Entry) → AllZip IsCopy es fs → IsTried es → IsTried fs
copied_tried es fs h k = subst (λ ts. AllTried ts fs) (sym (copied_names es fs h)) (all_tried (spellings es) es fs h k)
