-- What is asked of a symbol is answered by the one that is found.
use Rattle.std.proofs.Common.{ℕ, ◌+◌, ◌<◌, ◌≤◌, ◌==◌, ◌≡◌, ◌∙◌, refl, sym, ap, List, [], ◌∷◌, ◌++◌, map, length, take, Bool, true, false, not, ◌&&◌, ◌||◌, if◌then◌else◌, find, Option, None, Some, option_map}
use Rattle.std.proofs.lemmas.Bool.{eqb-true}
use Rattle.std.proofs.lemmas.List.{take_all, take_more}
use Rattle.std.proofs.lemmas.Option.{get_or_from_slice_get, slice_get-map, slice_get_within}
use Rattle.std.specs.List.{list_any}
use Rattle.std.specs.Prelude.{slice_get}
use Rattle.oxt_modules.specs.Names.{declarations_of, emits_nothing, has_other_value, has_value_use, references_of}
use Rattle.oxt_modules.specs.Symbols.{asked, besides, declares_besides, first_value, has_another}
use Rattle.oxt_modules.specs.declared.symbols.SymbolAnswers.{SymbolAnswers}
use Rattle.oxt_names.specs.Flags.{is_type_alone}
use Rattle.oxt_names.specs.declared.ids.ReferenceId.{ReferenceId}
use Rattle.oxt_names.specs.declared.ids.SymbolId.{SymbolId}
use Rattle.oxt_scoping.specs.Entries.{SymbolData}
use Rattle.oxt_scoping.specs.Meant.{symbol_in}
use Rattle.oxt_scoping.specs.declared.entry.Redeclaration.{Redeclaration}
use Rattle.oxt_scoping.specs.declared.entry.Slot.{Slot}
use Rattle.oxt_names.specs.declared.ids.NodeId.{NodeId}

-- ---- the first declaration that is a value, and another

and_true : (a : Bool) → (a && true) ≡ a
and_true true = refl
and_true false = refl

and_false : (a : Bool) → (a && false) ≡ false
and_false true = refl
and_false false = refl

-- a declaration that is a type alone is passed over
other_of_type : (n : ℕ) (d : Redeclaration) (ds : List Redeclaration) → is_type_alone d.flags ≡ true → has_other_value n (d ∷ ds) ≡ has_other_value n ds
other_of_type n d ds e = ap (λ b. (not (d.node.0 == n) && not b) || has_other_value n ds) e ∙ ap (λ b. b || has_other_value n ds) (and_false (not (d.node.0 == n)))

-- another one counts where it is by another node
other_of_value : (n : ℕ) (d : Redeclaration) (ds : List Redeclaration) → is_type_alone d.flags ≡ false → has_other_value n (d ∷ ds) ≡ (not (d.node.0 == n) || has_other_value n ds)
other_of_value n d ds e = ap (λ b. (not (d.node.0 == n) && not b) || has_other_value n ds) e ∙ ap (λ b. b || has_other_value n ds) (and_true (not (d.node.0 == n)))

another_of_type : (o : Option NodeId) (d : Redeclaration) (ds : List Redeclaration) → is_type_alone d.flags ≡ true → has_another o (d ∷ ds) ≡ has_another o ds
another_of_type None d ds e = refl
another_of_type (Some n) d ds e = other_of_type n.0 d ds e

first_of_type : (d : Redeclaration) (ds : List Redeclaration) → is_type_alone d.flags ≡ true → first_value (d ∷ ds) ≡ first_value ds
first_of_type d ds e = ap (λ b. option_map (λ (x : Redeclaration). x.node) (if not b then Some d else find (λ (x : Redeclaration). not (is_type_alone x.flags)) ds)) e

first_of_value : (d : Redeclaration) (ds : List Redeclaration) → is_type_alone d.flags ≡ false → first_value (d ∷ ds) ≡ Some d.node
first_of_value d ds e = ap (λ b. option_map (λ (x : Redeclaration). x.node) (if not b then Some d else find (λ (x : Redeclaration). not (is_type_alone x.flags)) ds)) e

-- beside the first stands another, or the first is another itself
beside_first : (n : ℕ) (d : Redeclaration) (ds : List Redeclaration) → is_type_alone d.flags ≡ false → (not (d.node.0 == n) || has_other_value d.node.0 (d ∷ ds)) ≡ has_other_value n (d ∷ ds)
beside_first n d ds e = step (d.node.0 == n) refl
  where
    step : (b : Bool) → (d.node.0 == n) ≡ b → (not (d.node.0 == n) || has_other_value d.node.0 (d ∷ ds)) ≡ has_other_value n (d ∷ ds)
    step true s = ap (λ b. not b || has_other_value d.node.0 (d ∷ ds)) s ∙ ap (λ m. has_other_value m (d ∷ ds)) (eqb-true d.node.0 n s)
    step false s = ap (λ b. not b || has_other_value d.node.0 (d ∷ ds)) s ∙ sym (other_of_value n d ds e ∙ ap (λ b. not b || has_other_value n ds) s)

pub besides_first : (n : ℕ) (ds : List Redeclaration) → besides n (first_value ds) (has_another (first_value ds) ds) ≡ has_other_value n ds
besides_first n [] = refl
besides_first n (d ∷ ds) = step (is_type_alone d.flags) refl (besides_first n ds)
  where
    step : (b : Bool) → is_type_alone d.flags ≡ b → besides n (first_value ds) (has_another (first_value ds) ds) ≡ has_other_value n ds → besides n (first_value (d ∷ ds)) (has_another (first_value (d ∷ ds)) (d ∷ ds)) ≡ has_other_value n (d ∷ ds)
    step true e rest =
        ap (λ o. besides n o (has_another o (d ∷ ds))) (first_of_type d ds e) ∙ ap (besides n (first_value ds)) (another_of_type (first_value ds) d ds e)
        ∙ rest ∙ sym (other_of_type n d ds e)
    step false e rest = ap (λ o. besides n o (has_another o (d ∷ ds))) (first_of_value d ds e) ∙ beside_first n d ds e

-- ---- the answers of a symbol that is found

pub again_some : (ss : List Slot) (o : Option SymbolData) (a : SymbolAnswers) (n : ℕ) → Some a ≡ option_map (asked ss) o → declares_besides n a ≡ has_other_value n (declarations_of o)
again_some ss None a n h = cc
again_some ss (Some y) a n h = ap (λ p. option_besides n p) h ∙ besides_first n y.declarations
  where
    option_besides : ℕ → Option SymbolAnswers → Bool
    option_besides n None = false
    option_besides n (Some x) = declares_besides n x

pub again_none : (ss : List Slot) (o : Option SymbolData) (n : ℕ) → None ≡ option_map (asked ss) o → false ≡ has_other_value n (declarations_of o)
again_none ss None n h = refl
again_none ss (Some y) n h = cc

pub ruleset again_found = (again_some, again_none)

abbrev used : Option SymbolAnswers → Bool
used None = false
used (Some a) = a.is_used

abbrev emitted : Option SymbolAnswers → Bool
emitted None = false
emitted (Some a) = a.emits

pub use_some : (ss : List Slot) (o : Option SymbolData) (a : SymbolAnswers) → Some a ≡ option_map (asked ss) o → a.is_used ≡ has_value_use ss (references_of o)
use_some ss None a h = cc
use_some ss (Some y) a h = ap used h

pub use_none : (ss : List Slot) (o : Option SymbolData) → None ≡ option_map (asked ss) o → false ≡ has_value_use ss (references_of o)
use_none ss None h = refl
use_none ss (Some y) h = cc

pub ruleset use_found = (use_some, use_none)

emission_of : (ss : List Slot) (ys : List SymbolData) (i : SymbolId) (a : SymbolAnswers) (o : Option SymbolData) → slice_get ys i.0 ≡ o → Some a ≡ option_map (asked ss) o → not a.emits ≡ not (list_any (λ d. d.emits) (declarations_of o))
emission_of ss ys i a None is h = cc
emission_of ss ys i a (Some y) is h = ap (λ p. not (emitted p)) h

pub emission_found : (ss : List Slot) (ys : List SymbolData) (o : Option SymbolId) (a : SymbolAnswers) → Some a ≡ option_map (asked ss) (symbol_in ys o) → not a.emits ≡ emits_nothing ys o
emission_found ss ys None a h = cc
emission_found ss ys (Some i) a h = emission_of ss ys i a (slice_get ys i.0) refl h

-- the answers of the symbol of that number
pub asked_found : (ss : List Slot) (ys : List SymbolData) (xs : List SymbolAnswers) (i : ℕ) → xs ≡ map (asked ss) ys → slice_get xs i ≡ option_map (asked ss) (slice_get ys i)
asked_found ss ys xs i is = ap (λ zs. slice_get zs i) is ∙ slice_get-map (asked ss) ys i

-- ---- the answers, a symbol after the other

-- the declarations of a symbol that is there
declarations_are : (o : Option SymbolData) (ds : List Redeclaration) → option_map (λ y. y.declarations) o ≡ Some ds → declarations_of o ≡ ds
declarations_are None ds h = cc
declarations_are (Some y) ds h = cc

-- its references
references_are : (o : Option SymbolData) (rs : List ReferenceId) → option_map (λ y. y.references) o ≡ Some rs → references_of o ≡ rs
references_are None rs h = cc
references_are (Some y) rs h = cc

pub asked_is : (ss : List Slot) (o : Option SymbolData) (ds : List Redeclaration) (rs : List ReferenceId) (f : Option NodeId) (a u e : Bool)
    → option_map (λ y. y.declarations) o ≡ Some ds → option_map (λ y. y.references) o ≡ Some rs
    → f ≡ first_value ds → a ≡ has_another f ds → u ≡ has_value_use ss rs → e ≡ list_any (λ d. d.emits) ds
    → option_map (asked ss) o ≡ Some (record { first_value = f; has_another = a; is_used = u; emits = e })
asked_is ss None ds rs f a u e declared referred first another uses emits = cc
asked_is ss (Some y) ds rs f a u e declared referred first another uses emits =
    λ j. Some (record { first_value = is_first j; has_another = is_another j; is_used = is_use j; emits = is_emits j })
  where
    same : y.declarations ≡ ds
    same = declarations_are (Some y) ds declared

    is_first : first_value y.declarations ≡ f
    is_first = ap first_value same ∙ sym first

    is_another : has_another (first_value y.declarations) y.declarations ≡ a
    is_another = (λ j. has_another (is_first j) (same j)) ∙ sym another

    is_use : has_value_use ss y.references ≡ u
    is_use = ap (has_value_use ss) (references_are (Some y) rs referred) ∙ sym uses

    is_emits : list_any (λ d. d.emits) y.declarations ≡ e
    is_emits = ap (list_any (λ d. d.emits)) same ∙ sym emits

pub asked_next : (ss : List Slot) (ys : List SymbolData) (old new : List SymbolAnswers) (i : ℕ) (x : SymbolAnswers) → option_map (asked ss) (slice_get ys i) ≡ Some x
    → old ≡ take i (map (asked ss) ys) → new ≡ old ++ x ∷ [] → new ≡ take (i + 1) (map (asked ss) ys)
asked_next ss ys old new i x found so_far pushed =
    pushed ∙ ap (λ xs. xs ++ x ∷ []) so_far
    ∙ sym (take_more (map (asked ss) ys) i x (slice_get_within (map (asked ss) ys) i x here) ∙ ap (λ y. take i (map (asked ss) ys) ++ y ∷ []) (get_or_from_slice_get (map (asked ss) ys) i x x here))
  where
    here : slice_get (map (asked ss) ys) i ≡ Some x
    here = slice_get-map (asked ss) ys i ∙ found

pub asked_end : (ss : List Slot) (ys : List SymbolData) (out : List SymbolAnswers) (i : ℕ) → length (map (asked ss) ys) ≤ i → out ≡ take i (map (asked ss) ys) → out ≡ map (asked ss) ys
asked_end ss ys out i past so_far = so_far ∙ take_all i (map (asked ss) ys) past

pub ruleset asked_steps = (asked_next, asked_end)
