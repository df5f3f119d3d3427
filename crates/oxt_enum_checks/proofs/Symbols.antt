-- The first names of symbols, one symbol after another, and the declarations of one that is found.
use Rattle.std.proofs.Common.{◌≡◌, ◌∙◌, refl, sym, ap, ℕ, zero, suc, ◌+◌, ◌<◌, ◌≤◌, List, [], ◌∷◌, ◌++◌, length, drop, arith, append_assoc, add-one, length-append, false, Option, Some, None}
use Rattle.std.proofs.lemmas.List.{append-nil}
use Rattle.std.specs.Prelude.{map, nat_lt, option_map, slice_get}
use Rattle.oxt_enum_checks.specs.Sought.{declarations_of, first_name, first_names}
use Rattle.oxt_enum_checks.specs.First.{numbers_of}
use Rattle.oxt_enum_checks.specs.Places.{Placed}
use Rattle.oxt_enum_checks.specs.declared.blocks.Block.{Block}
use Rattle.oxt_enum_checks.specs.declared.sought.Sought.{Sought}
use Rattle.oxt_scoping.specs.Entries.{SymbolData}
use Rattle.oxt_scoping.specs.Meant.{symbol_in}
use Rattle.oxt_scoping.specs.declared.entry.Redeclaration.{Redeclaration}
use Rattle.oxt_names.specs.declared.ids.SymbolId.{SymbolId}
use Rattle.oxt_names.proofs.Lists.{drop_end}
use Rattle.oxt_names.specs.declared.ids.NodeId.{NodeId}

-- ---- names

-- the name of a symbol
abbrev name_of : Placed → Sought → SymbolData → Option ℕ
name_of p o y = first_name p o y.declarations

-- What was found is of the first symbols, and what is left is of the others.
pub record IsFound (p : Placed) (o : Sought) (ys : List SymbolData) (found : List (Option ℕ)) : Type 0 where
  pub within : length found ≤ length ys
  pub whole : found ++ first_names p o (drop (length found) ys) ≡ first_names p o ys

pub found_none : (p : Placed) (o : Sought) (ys : List SymbolData) (found : List (Option ℕ)) → found ≡ [] → IsFound p o ys found
found_none p o ys found empty = rw empty (record { within = omega arith; whole = refl })

same_first : (b c : Option ℕ) → Some b ≡ Some c → b ≡ c
same_first b c h = cc

rest_at : (p : Placed) (o : Sought) (ys : List SymbolData) (k : ℕ) (b : Option ℕ) → option_map (name_of p o) (slice_get ys k) ≡ Some b
    → (k < length ys) × (first_names p o (drop k ys) ≡ b ∷ first_names p o (drop (k + 1) ys))
rest_at p o [] k b h = absurd (cc)
rest_at p o (y ∷ ys) zero b h = (omega arith, ap (λ c. c ∷ first_names p o ys) (same_first (name_of p o y) b h))
rest_at p o (y ∷ ys) (suc k) b h = let rest = rest_at p o ys k b h in (omega (arith, rest.0), rw add-one (rw add-one at rest.1))

pub found_more : (p : Placed) (o : Sought) (ys : List SymbolData) (found new : List (Option ℕ)) (k : ℕ) (b : Option ℕ) → k ≡ length found
    → option_map (λ y. first_name p o y.declarations) (slice_get ys k) ≡ Some b → new ≡ found ++ b ∷ [] → IsFound p o ys found → IsFound p o ys new
found_more p o ys found new k b place at is so_far =
    let rest = rest_at p o ys (length found) b (ap (λ n. option_map (name_of p o) (slice_get ys n)) (sym place) ∙ at) in
    let long : length new ≡ length found + 1 = ap length is ∙ length-append found (b ∷ []) in
    record {
      within = omega (arith, rest.0, long);
      whole =
          ap (λ xs. xs ++ first_names p o (drop (length new) ys)) is ∙ ap (λ k. (found ++ b ∷ []) ++ first_names p o (drop k ys)) long
          ∙ append_assoc found (b ∷ []) (first_names p o (drop (length found + 1) ys)) ∙ ap (λ xs. found ++ xs) (sym rest.1) ∙ so_far.whole;
    }

pub found_all : (p : Placed) (o : Sought) (ys : List SymbolData) (found : List (Option ℕ)) → nat_lt (length found) (length ys) ≡ false → IsFound p o ys found → found ≡ first_names p o ys
found_all p o ys found past so_far =
    let end : length ys ≤ length found = grind (arith, past) in
    sym (append-nil found) ∙ ap (λ xs. found ++ first_names p o xs) (sym (drop_end ys (length found) end)) ∙ so_far.whole

pub ruleset finding_steps = (found_none, found_all)

-- the name of one symbol
pub first_so : (p : Placed) (o : Sought) (y : Option SymbolData) (ds : List Redeclaration) (b : Option ℕ) → option_map (λ (z : SymbolData). z.declarations) y ≡ Some ds → b ≡ first_name p o ds
    → option_map (λ z. first_name p o z.declarations) y ≡ Some b
first_so p o None ds b h is = absurd (cc)
first_so p o (Some y) ds b h is = let same : y.declarations ≡ ds = cc in ap (λ c. Some c) (ap (first_name p o) same ∙ sym is)

-- ---- declarations

-- those of a symbol that is there
declarations_are : (o : Option SymbolData) (ds : List Redeclaration) → option_map (λ y. y.declarations) o ≡ Some ds → ds ≡ declarations_of o
declarations_are None ds h = cc
declarations_are (Some y) ds h = cc

-- those of the symbol that was found
pub declarations_found : (ys : List SymbolData) (o : Option SymbolId) (i : SymbolId) (ds : List Redeclaration) → Some i ≡ o → option_map (λ y. y.declarations) (slice_get ys i.0) ≡ Some ds → ds ≡ declarations_of (symbol_in ys o)
declarations_found ys o i ds found are = declarations_are (slice_get ys i.0) ds are ∙ ap (λ p. declarations_of (symbol_in ys p)) found

-- ---- blocks

-- the numbers of their nodes
pub numbers_are : (bs : List Block) → map (λ (n : NodeId). n.0) (map (λ (b : Block). b.node) bs) ≡ numbers_of bs
numbers_are [] = refl
numbers_are (b ∷ bs) = ap (λ ns. b.node.0 ∷ ns) (numbers_are bs)
