-- Counting imports, and putting statements below them.
use Rattle.std.proofs.Common.{◌≡◌, ℕ, zero, suc, ◌∙◌, ◌+◌, ◌<◌, ◌≤◌, List, [], ◌∷◌, ◌++◌, length, take, drop, get_or, cond, true, false, Bool, ap, add-one, arith, refl, sym, Option, length-append, option_to_list}
use Rattle.std.specs.List.{insert}
use Rattle.std.proofs.lemmas.List.{append_assoc, drop-map, length-map, map-append, take-map}
use Rattle.std.proofs.Math.Seq.{drop-append_seam, take-append_seam}
use Rattle.oxt_stores.specs.Insertion.{docs}
use Rattle.oxt_grammar.specs.declared.kind.Kind.TheVariants as kind
use Rattle.oxt_tree.specs.Doc.{Doc}
use Rattle.oxt_tree.specs.Fields.{is_kind}
use Rattle.oxt_tree.specs.View.{part_doc}
use Rattle.oxt_tree.specs.declared.tree.Part.{Part}
use Rattle.oxt_traverse.specs.Closed.{below_imports, imports}

-- ---- counting

next_import : (ps : List Part) (i : ℕ) (p : Part) → i < length ps → p ≡ get_or ps i p → is_kind kind.ImportDeclaration (part_doc p) ≡ true → imports (docs (drop i ps)) ≡ suc (imports (docs (drop (suc i) ps)))
next_import [] i p lt here holds = absurd (omega arith)
next_import (q ∷ ps) zero p lt here holds =
    ap (λ b. cond b (suc (imports (docs ps))) 0) (sym (ap (λ x. is_kind kind.ImportDeclaration (part_doc x)) here) ∙ holds)
next_import (q ∷ ps) (suc i) p lt here holds = next_import ps i p (omega arith) here holds

-- one more import
pub import_more : (ps : List Part) (i : ℕ) (p : Part) → i < length ps → p ≡ get_or ps i p → is_kind kind.ImportDeclaration (part_doc p) ≡ true → imports (docs (drop i ps)) ≡ suc (imports (docs (drop (i + 1) ps)))
import_more ps i p lt here holds = rw add-one (next_import ps i p lt here holds)

-- the first that is none
pub import_none : (ps : List Part) (i : ℕ) (p : Part) → i < length ps → p ≡ get_or ps i p → is_kind kind.ImportDeclaration (part_doc p) ≡ false → imports (docs (drop i ps)) ≡ 0
import_none [] i p lt here fails = absurd (omega arith)
import_none (q ∷ ps) zero p lt here fails =
    ap (λ b. cond b (suc (imports (docs ps))) 0) (sym (ap (λ x. is_kind kind.ImportDeclaration (part_doc x)) here) ∙ fails)
import_none (q ∷ ps) (suc i) p lt here fails = import_none ps i p (omega arith) here fails

-- no more statements
pub import_done : (ps : List Part) (i : ℕ) → length ps ≤ i → imports (docs (drop i ps)) ≡ 0
import_done [] zero le = refl
import_done [] (suc i) le = refl
import_done (p ∷ ps) zero le = absurd (omega arith)
import_done (p ∷ ps) (suc i) le = import_done ps i (omega arith)

imports_step : (b : Bool) (m n : ℕ) → m ≤ n → cond b (suc m) 0 ≤ suc n
imports_step true m n le = omega arith
imports_step false m n le = omega arith

-- there are no more imports than statements
pub imports_within : (ds : List Doc) → imports ds ≤ length ds
imports_within [] = omega arith
imports_within (d ∷ ds) = imports_step (is_kind kind.ImportDeclaration d) (imports ds) (length ds) (imports_within ds)

-- the same of the parts
pub imports_fit : (ps : List Part) → imports (docs ps) ≤ length ps
imports_fit ps =
    let same : length (docs ps) ≡ length ps = length-map ps part_doc in
    let within = imports_within (docs ps) in
    omega arith

-- ---- inserting

-- a statement at a place
pub inserted : (ps : List Part) (n : ℕ) (p : Part) → docs (insert ps n p) ≡ take n (docs ps) ++ (part_doc p ∷ drop n (docs ps))
inserted ps n p =
    let front : docs (take n ps) ≡ take n (docs ps) = sym (take-map part_doc n ps) in
    let rest : docs (drop n ps) ≡ drop n (docs ps) = sym (drop-map part_doc n ps) in
    let both : docs (take n ps ++ p ∷ drop n ps) ≡ docs (take n ps) ++ docs (p ∷ drop n ps) = map-append part_doc (take n ps) (p ∷ drop n ps) in
    cc

length_front : (n : ℕ) (ds : List Doc) → n ≤ length ds → length (take n ds) ≡ n
length_front zero ds le = refl
length_front (suc n) [] le = absurd (omega arith)
length_front (suc n) (d ∷ ds) le = ap suc (length_front n ds (omega arith))

again : (ds l v front : List Doc) (n : ℕ) → length front ≡ n → take n (front ++ (l ++ drop n ds)) ++ (v ++ drop n (front ++ (l ++ drop n ds))) ≡ front ++ ((v ++ l) ++ drop n ds)
again ds l v front n len =
    let t : take n (front ++ (l ++ drop n ds)) ≡ front = ap (λ m. take m (front ++ (l ++ drop n ds))) (sym len) ∙ take-append_seam front (l ++ drop n ds) in
    let d : drop n (front ++ (l ++ drop n ds)) ≡ l ++ drop n ds = ap (λ m. drop m (front ++ (l ++ drop n ds))) (sym len) ∙ drop-append_seam front (l ++ drop n ds) in
    let a : (v ++ l) ++ drop n ds ≡ v ++ (l ++ drop n ds) = append_assoc v l (drop n ds) in
    cc

-- two runs at one place, the later one in front of the earlier
pub two_inserted : (ds es fs l v : List Doc) (n : ℕ) → n ≤ length ds → es ≡ take n ds ++ (l ++ drop n ds) → fs ≡ take n es ++ (v ++ drop n es) → fs ≡ take n ds ++ ((v ++ l) ++ drop n ds)
two_inserted ds es fs l v n le first second =
    second ∙ (ap (λ xs. take n xs ++ (v ++ drop n xs)) first ∙ again ds l v (take n ds) n (length_front n ds le))

-- the place is in the list still
pub place_fits : (ps qs : List Part) (l : List Doc) (n : ℕ) → n ≡ imports (docs ps) → docs qs ≡ take n (docs ps) ++ (l ++ drop n (docs ps)) → n ≤ length qs
place_fits ps qs l n counted first =
    let within = imports_within (docs ps) in
    let le : n ≤ length (docs ps) = omega arith in
    let front = length_front n (docs ps) le in
    let all : length (docs qs) ≡ length (take n (docs ps)) + length (l ++ drop n (docs ps)) = ap length first ∙ length-append (take n (docs ps)) (l ++ drop n (docs ps)) in
    let same : length (docs qs) ≡ length qs = length-map qs part_doc in
    omega arith

-- both statements of declarators below the imports
pub declared_below : (ps es fs : List Part) (n : ℕ) (v l v' l' : Option Doc) → n ≡ imports (docs ps) → v ≡ v' → l ≡ l' → docs es ≡ take n (docs ps) ++ (option_to_list l ++ drop n (docs ps)) → docs fs ≡ take n (docs es) ++ (option_to_list v ++ drop n (docs es)) → docs fs ≡ below_imports (option_to_list v' ++ option_to_list l') (docs ps)
declared_below ps es fs n v l v' l' counted same_v same_l first second =
    let within = imports_within (docs ps) in
    let le : n ≤ length (docs ps) = omega arith in
    let both = two_inserted (docs ps) (docs es) (docs fs) (option_to_list l) (option_to_list v) n le first second in
    cc

-- both at the top of the statements
pub declared_at_top : (ps es fs : List Part) (v l v' l' : Option Doc) → v ≡ v' → l ≡ l' → docs es ≡ take 0 (docs ps) ++ (option_to_list l ++ drop 0 (docs ps)) → docs fs ≡ take 0 (docs es) ++ (option_to_list v ++ drop 0 (docs es)) → docs fs ≡ (option_to_list v' ++ option_to_list l') ++ docs ps
declared_at_top ps es fs v l v' l' same_v same_l first second =
    let both : docs fs ≡ (option_to_list v ++ option_to_list l) ++ docs ps = two_inserted (docs ps) (docs es) (docs fs) (option_to_list l) (option_to_list v) 0 (omega arith) first second in
    cc
