-- What is noted of symbols, one after another.
use Rattle.std.proofs.Common.{◌≡◌, ◌∙◌, refl, sym, ap, ℕ, zero, suc, ◌+◌, ◌<◌, ◌≤◌, List, [], ◌∷◌, ◌++◌, length, drop, arith, append_assoc, add-one, length-append, Bool, false, cond, Option, Some, None}
use Rattle.std.proofs.lemmas.List.{append-nil}
use Rattle.std.specs.Prelude.{map, nat_lt, option_map, slice_get, slice_index_or}
use Rattle.oxt_faults.specs.AllCaptured.{all_captured, all_marked}
use Rattle.oxt_faults.specs.Earliest.{earlier}
use Rattle.oxt_faults.specs.WrittenNames.{is_written, marked_sought, written_captured, written_marked, written_sought}
use Rattle.oxt_fields.specs.Rules.{Rules}
use Rattle.oxt_faults.specs.Captured.{Capture, captured, captured_as, emits, is_captured, is_emitted}
use Rattle.oxt_faults.specs.Captured as spec
use Rattle.oxt_faults.specs.Marks.{captured_symbols, emitting_symbols, mark_at, marked, marked_as, use_of}
use Rattle.oxt_scoping.specs.Entries.{SymbolData}
use Rattle.oxt_scoping.specs.Meant.{meant, symbol_in, value_meant}
use Rattle.oxt_scoping.specs.Scoped.{Scoped}
use Rattle.oxt_scoping.specs.declared.entry.Redeclaration.{Redeclaration}
use Rattle.oxt_search.specs.First.{first_in}
use Rattle.oxt_names.specs.declared.ids.SymbolId.{SymbolId}
use Rattle.oxt_names.proofs.Lists.{drop_end}
use Rattle.oxt_tree.specs.Doc.{Doc}
use Rattle.oxt_declares.specs.Dropped.{is_dropped_by}

-- ---- one symbol after another

-- What was noted is of the first symbols, and what is left is of the others.
pub record IsNoted (f : SymbolData → Bool) (ys : List SymbolData) (bs : List Bool) : Type 0 where
  pub within : length bs ≤ length ys
  pub whole : bs ++ map f (drop (length bs) ys) ≡ map f ys

pub noted_none : (f : SymbolData → Bool) (ys : List SymbolData) (bs : List Bool) → bs ≡ [] → IsNoted f ys bs
noted_none f ys bs empty = rw empty (record { within = omega arith; whole = refl })

same_some : (b c : Bool) → Some b ≡ Some c → b ≡ c
same_some b c h = cc

rest_at : (f : SymbolData → Bool) (ys : List SymbolData) (k : ℕ) (b : Bool) → option_map f (slice_get ys k) ≡ Some b
    → (k < length ys) × (map f (drop k ys) ≡ b ∷ map f (drop (k + 1) ys))
rest_at f [] k b h = absurd (cc)
rest_at f (y ∷ ys) zero b h = (omega arith, ap (λ c. c ∷ map f ys) (same_some (f y) b h))
rest_at f (y ∷ ys) (suc k) b h = let rest = rest_at f ys k b h in (omega (arith, rest.0), rw add-one (rw add-one at rest.1))

pub noted_more : (f : SymbolData → Bool) (ys : List SymbolData) (bs new : List Bool) (k : ℕ) (b : Bool) → k ≡ length bs
    → option_map f (slice_get ys k) ≡ Some b → new ≡ bs ++ b ∷ [] → IsNoted f ys bs → IsNoted f ys new
noted_more f ys bs new k b place at is so_far =
    let rest = rest_at f ys (length bs) b (ap (λ n. option_map f (slice_get ys n)) (sym place) ∙ at) in
    let long : length new ≡ length bs + 1 = ap length is ∙ length-append bs (b ∷ []) in
    record {
      within = omega (arith, rest.0, long);
      whole =
          ap (λ xs. xs ++ map f (drop (length new) ys)) is ∙ ap (λ k. (bs ++ b ∷ []) ++ map f (drop k ys)) long
          ∙ append_assoc bs (b ∷ []) (map f (drop (length bs + 1) ys)) ∙ ap (λ xs. bs ++ xs) (sym rest.1) ∙ so_far.whole;
    }

pub noted_all : (f : SymbolData → Bool) (ys : List SymbolData) (bs : List Bool) → nat_lt (length bs) (length ys) ≡ false → IsNoted f ys bs → bs ≡ map f ys
noted_all f ys bs past so_far =
    let end : length ys ≤ length bs = grind (arith, past) in
    sym (append-nil bs) ∙ ap (λ xs. bs ++ map f xs) (sym (drop_end ys (length bs) end)) ∙ so_far.whole

pub ruleset marking_steps = (noted_none, noted_all)

-- a declaration of one symbol emits code
pub emits_so : (y : Option SymbolData) (ds : List Redeclaration) (b : Bool) → option_map (λ (z : SymbolData). z.declarations) y ≡ Some ds → b ≡ emits ds
    → option_map (λ z. emits z.declarations) y ≡ Some b
emits_so None ds b h is = absurd (cc)
emits_so (Some y) ds b h is = let same : y.declarations ≡ ds = cc in ap (λ c. Some c) (ap emits same ∙ sym is)

-- ---- what is noted, and what it is noted of

-- that a declaration emits code
emitting_at : (ys : List SymbolData) (i : ℕ) → slice_index_or (map (λ y. emits y.declarations) ys) i false ≡ is_emitted (slice_get ys i)
emitting_at [] i = refl
emitting_at (y ∷ ys) zero = refl
emitting_at (y ∷ ys) (suc i) = emitting_at ys i

pub emitting_mark : (s : Scoped) (bs : List Bool) (b : Bool) (i : SymbolId) (o : Option SymbolId) → bs ≡ emitting_symbols s → Some i ≡ o → b ≡ mark_at bs i → b ≡ is_emitted (symbol_in s.symbols o)
emitting_mark s bs b i o are found is = is ∙ ap (λ cs. mark_at cs i) are ∙ emitting_at s.symbols i.0 ∙ ap (λ p. is_emitted (symbol_in s.symbols p)) found

-- that it is captured
captured_mark : (s : Scoped) (ls : ℕ → Bool) (n : ℕ) (ys : List SymbolData) (i : ℕ)
    → cond (slice_index_or (map (is_captured s ls) ys) i false) (option_map (use_of n) (slice_get ys i)) None ≡ captured_as s ls n (slice_get ys i)
captured_mark s ls n [] i = refl
captured_mark s ls n (y ∷ ys) zero = refl
captured_mark s ls n (y ∷ ys) (suc i) = captured_mark s ls n ys i

captured_so : (s : Scoped) (ls : ℕ → Bool) (n : ℕ) (o : Option SymbolId) → marked_as s (captured_symbols s ls) n o ≡ captured_as s ls n (symbol_in s.symbols o)
captured_so s ls n None = refl
captured_so s ls n (Some i) = captured_mark s ls n s.symbols i.0

-- What is marked so is sought.
same_sought : (legacy : Bool) (s : Scoped) (ls : ℕ → Bool) → marked legacy s (captured_symbols s ls) ≡ spec.sought legacy s ls
same_sought legacy s ls = λ j. record {
  at = λ u k i ds. cond (is_dropped_by k ds) None (captured_so s ls i (value_meant s i) j);
  inside = (spec.sought legacy s ls).inside;
  in_field = (spec.sought legacy s ls).in_field;
}

pub marked_found : (legacy : Bool) (s : Scoped) (ls : ℕ → Bool) (bs : List Bool) (d : Doc) (found : Option Capture) → bs ≡ captured_symbols s ls → found ≡ first_in (marked legacy s bs) d tt → found ≡ captured legacy s ls d
marked_found legacy s ls bs d found are is = is ∙ ap (λ cs. first_in (marked legacy s cs) d tt) are ∙ ap (λ q. first_in q d tt) (same_sought legacy s ls)

-- The same of names that metadata writes.
written_so : (r : Rules) (s : Scoped) (ls : ℕ → Bool) → marked_sought r s (captured_symbols s ls) ≡ written_sought r s ls
written_so r s ls = λ j. record {
  at = λ u k i ds. cond (is_written r i) (captured_so s ls i (meant s i) j) None;
  inside = (written_sought r s ls).inside;
  in_field = (written_sought r s ls).in_field;
}

written_found : (r : Rules) (s : Scoped) (ls : ℕ → Bool) (d : Doc) → written_marked r s (captured_symbols s ls) d ≡ written_captured r s ls d
written_found r s ls d = ap (λ q. cond r.emits (first_in q d tt) None) (written_so r s ls)

pub all_found : (r : Rules) (s : Scoped) (ls : ℕ → Bool) (bs : List Bool) (d : Doc) (found : Option Capture) → bs ≡ captured_symbols s ls → found ≡ all_marked r s bs d → found ≡ all_captured r s ls d
all_found r s ls bs d found are is =
    is ∙ ap (λ cs. all_marked r s cs d) are
    ∙ ap (λ c. earlier c (written_marked r s (captured_symbols s ls) d)) (marked_found r.legacy s ls (captured_symbols s ls) d _ refl refl)
    ∙ ap (earlier (captured r.legacy s ls d)) (written_found r s ls d)

-- ---- names that scopes have

emitted_is : (y : Option SymbolData) (ds : List Redeclaration) → option_map (λ (z : SymbolData). z.declarations) y ≡ Some ds → emits ds ≡ is_emitted y
emitted_is None ds h = absurd (cc)
emitted_is (Some y) ds h = let same : y.declarations ≡ ds = cc in ap emits (sym same)

-- a declaration of the symbol that a scope binds the name to emits code
pub taken_so : (s : Scoped) (i : SymbolId) (o : Option SymbolId) (ds : List Redeclaration) (b : Bool) → Some i ≡ o → option_map (λ (z : SymbolData). z.declarations) (slice_get s.symbols i.0) ≡ Some ds → b ≡ emits ds → b ≡ is_emitted (symbol_in s.symbols o)
taken_so s i o ds b found are is = is ∙ emitted_is (slice_get s.symbols i.0) ds are ∙ ap (λ p. is_emitted (symbol_in s.symbols p)) found

pub ruleset taken_steps = (taken_so)
