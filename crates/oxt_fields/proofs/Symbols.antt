-- What is noted of symbols, one after another.
use Rattle.std.proofs.Common.{◌≡◌, ◌∙◌, refl, sym, ap, ℕ, zero, suc, ◌+◌, ◌<◌, ◌≤◌, List, [], ◌∷◌, ◌++◌, length, drop, arith, append_assoc, add-one, length-append, Bool, false, ◌&&◌, cond, Option, Some, None, Result, Ok, Err, IfOk}
use Rattle.std.proofs.lemmas.List.{append-nil}
use Rattle.std.specs.Prelude.{map, nat_lt, option_map, slice_get, slice_index_or}
use Rattle.oxt_fields.specs.Marks.{mark_at, marked, steady_symbols}
use Rattle.oxt_fields.specs.Written.{is_steady, is_steady_by, is_steady_symbol, never_written}
use Rattle.oxt_fields.specs.Written as spec
use Rattle.oxt_grammar.specs.Places.{same_kind}
use Rattle.oxt_grammar.specs.declared.kind.Kind.TheVariants as kind
use Rattle.oxt_names.specs.declared.flags.SymbolFlags.{SymbolFlags}
use Rattle.oxt_names.specs.declared.ids.ReferenceId.{ReferenceId}
use Rattle.oxt_names.specs.declared.ids.SymbolId.{SymbolId}
use Rattle.oxt_scoping.specs.Entries.{SymbolData}
use Rattle.oxt_scoping.specs.Meant.{meant, symbol_in}
use Rattle.oxt_scoping.specs.Scoped.{Scoped}
use Rattle.oxt_scoping.specs.declared.entry.Slot.{Slot}
use Rattle.oxt_search.specs.All.{all_in}
use Rattle.oxt_names.proofs.Lists.{drop_end}
use Rattle.oxt_tree.specs.Doc.{Doc}

-- ---- one symbol after another

-- What was noted is of the first symbols, and what is left is of the others.
pub record IsNoted (f : SymbolData → Bool) (ys : List SymbolData) (bs : List Bool) : Type 0 where
  pub within : length bs ≤ length ys
  pub whole : bs ++ map f (drop (length bs) ys) ≡ map f ys

pub noted_none : (f : SymbolData → Bool) (ys : List SymbolData) (bs : List Bool) → bs ≡ [] → IsNoted f ys bs
noted_none f ys bs empty = rw empty (record { within = omega arith; whole = refl })

same_some : (b c : Bool) → Some b ≡ Some c → b ≡ c
same_some b c h = cc

rest_at : (f : SymbolData → Bool) (ys : List SymbolData) (k : ℕ) (b : Bool) → option_map f (slice_get ys k) ≡ Some b
    → (k < length ys) × (map f (drop k ys) ≡ b ∷ map f (drop (k + 1) ys))
rest_at f [] k b h = absurd (cc)
rest_at f (y ∷ ys) zero b h = (omega arith, ap (λ c. c ∷ map f ys) (same_some (f y) b h))
rest_at f (y ∷ ys) (suc k) b h = let rest = rest_at f ys k b h in (omega (arith, rest.0), rw add-one (rw add-one at rest.1))

pub noted_more : (f : SymbolData → Bool) (ys : List SymbolData) (bs new : List Bool) (k : ℕ) (b : Bool) → k ≡ length bs
    → option_map f (slice_get ys k) ≡ Some b → new ≡ bs ++ b ∷ [] → IsNoted f ys bs → IsNoted f ys new
noted_more f ys bs new k b place at is so_far =
    let rest = rest_at f ys (length bs) b (ap (λ n. option_map f (slice_get ys n)) (sym place) ∙ at) in
    let long : length new ≡ length bs + 1 = ap length is ∙ length-append bs (b ∷ []) in
    record {
      within = omega (arith, rest.0, long);
      whole =
          ap (λ xs. xs ++ map f (drop (length new) ys)) is ∙ ap (λ k. (bs ++ b ∷ []) ++ map f (drop k ys)) long
          ∙ append_assoc bs (b ∷ []) (map f (drop (length bs + 1) ys)) ∙ ap (λ xs. bs ++ xs) (sym rest.1) ∙ so_far.whole;
    }

pub noted_all : (f : SymbolData → Bool) (ys : List SymbolData) (bs : List Bool) → nat_lt (length bs) (length ys) ≡ false → IsNoted f ys bs → bs ≡ map f ys
noted_all f ys bs past so_far =
    let end : length ys ≤ length bs = grind (arith, past) in
    sym (append-nil bs) ∙ ap (λ xs. bs ++ map f xs) (sym (drop_end ys (length bs) end)) ∙ so_far.whole

pub ruleset marking_steps = (noted_none, noted_all)

-- of one symbol
pub steady_so : (o : Option SymbolData) (ss : List Slot) (f : SymbolFlags) (rs : List ReferenceId) (b : Bool) → option_map (λ (z : SymbolData). z.flags) o ≡ Some f
    → option_map (λ (z : SymbolData). z.references) o ≡ Some rs → b ≡ is_steady_by ss f rs → option_map (is_steady ss) o ≡ Some b
steady_so None ss f rs b h k is = absurd (cc)
steady_so (Some y) ss f rs b h k is =
    let flags : y.flags ≡ f = cc in let references : y.references ≡ rs = cc in
    ap (λ c. Some c) (ap (λ g. is_steady_by ss g y.references) flags ∙ ap (is_steady_by ss f) references ∙ sym is)

-- ---- what is noted, and what it is noted of

steady_at_place : (ss : List Slot) (ys : List SymbolData) (i : ℕ) → slice_index_or (map (is_steady ss) ys) i false ≡ is_steady_symbol ss (slice_get ys i)
steady_at_place ss [] i = refl
steady_at_place ss (y ∷ ys) zero = refl
steady_at_place ss (y ∷ ys) (suc i) = steady_at_place ss ys i

steady_mark : (s : Scoped) (o : Option SymbolId) → mark_at (steady_symbols s) o ≡ is_steady_symbol s.references (symbol_in s.symbols o)
steady_mark s None = refl
steady_mark s (Some i) = steady_at_place s.references s.symbols i.0

-- What is marked so is sought.
same_sought : (s : Scoped) → marked s (steady_symbols s) ≡ spec.sought s
same_sought s = λ j. record {
  at = λ u k i ds. cond (same_kind k kind.IdentifierReference && steady_mark s (meant s i) j) (Some i) None;
  inside = (spec.sought s).inside;
  in_field = (spec.sought s).in_field;
}

marked_sought : (s : Scoped) (bs : List Bool) (d : Doc) → bs ≡ steady_symbols s → all_in (marked s bs) d tt ≡ never_written s d
marked_sought s bs d are = ap (λ cs. all_in (marked s cs) d tt) are ∙ ap (λ q. all_in q d tt) (same_sought s)

pub marked_found : {A E : Type 0} (f : A → List ℕ) (r : Result A E) (s : Scoped) (bs : List Bool) (d : Doc) → bs ≡ steady_symbols s
    → IfOk r (λ a. f a ≡ all_in (marked s bs) d tt) → IfOk r (λ a. f a ≡ never_written s d)
marked_found f (Ok a) s bs d are is = is ∙ marked_sought s bs d are
marked_found f (Err e) s bs d are is = tt
