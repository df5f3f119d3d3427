-- What the tables know, one member more.
use Rattle.std.proofs.Common.{◌≡◌, ◌∙◌, refl, sym, ap, ℕ, zero, suc, List, [], ◌∷◌, ◌++◌, map, length, subst, Bool, true, false, ◌&&◌, Option, Some, None, is_some, Result, Ok, Err, OnOk}
use Rattle.std.proofs.lemmas.List.{length-map, map-append}
use Rattle.std.specs.Option.{option_and_then, option_or}
use Rattle.std.specs.Prelude.{if◌then◌else◌, find, option_map, slice_get}
use Rattle.oxt_enums.specs.Constants.{Known, first_value, has_number, is_block_of, is_in_body, is_in_enum, is_named}
use Rattle.oxt_enums.specs.Tables.{Knows, at_name, at_number, at_path, constant_of, first_place, value_in, value_view}
use Rattle.oxt_enums.specs.declared.tables.Tables.{Tables}
use Rattle.oxt_names.specs.declared.constant.ConstantValue.{ConstantValue}

-- the first of them, where one more stands behind them
later : (b c : Bool) (o : Option ℕ) (n : ℕ) → (if b then Some 0 else option_map (λ i. suc i) (option_or o (if c then Some n else None))) ≡ option_or (if b then Some 0 else option_map (λ i. suc i) o) (if c then Some (suc n) else None)
later true c o n = refl
later false c (Some m) n = refl
later false true None n = refl
later false false None n = refl

place_more : (p : Known → Bool) (ks : List Known) (k : Known) → first_place p (ks ++ k ∷ []) ≡ option_or (first_place p ks) (if p k then Some (length ks) else None)
place_more p [] k = refl
place_more p (j ∷ ks) k = ap (λ o. if p j then Some 0 else option_map (λ i. suc i) o) (place_more p ks k) ∙ later (p j) (p k) (first_place p ks) (length ks)

-- what stands at the place of the first of them
found_at : (b : Bool) (k : Known) (ks : List Known) (o : Option ℕ) (found : Option Known) → option_and_then (slice_get (map constant_of ks)) o ≡ option_map constant_of found
    → option_and_then (slice_get (map constant_of (k ∷ ks))) (if b then Some 0 else option_map (λ i. suc i) o) ≡ option_map constant_of (if b then Some k else found)
found_at true k ks o found h = refl
found_at false k ks None found h = h
found_at false k ks (Some i) found h = h

at_first : (p : Known → Bool) (ks : List Known) → option_and_then (slice_get (map constant_of ks)) (first_place p ks) ≡ first_value p ks
at_first p [] = refl
at_first p (k ∷ ks) = found_at (p k) k ks (first_place p ks) (find p ks) (at_first p ks)

viewed : (vs : List (Option ConstantValue)) (i : ℕ) → option_map value_view (slice_get vs i) ≡ slice_get (map value_view vs) i
viewed [] i = refl
viewed (v ∷ vs) zero = refl
viewed (v ∷ vs) (suc i) = viewed vs i

viewed_at : (t : Tables) (o : Option ℕ) → option_and_then (value_in t) o ≡ option_and_then (slice_get (map value_view t.values.items)) o
viewed_at t None = refl
viewed_at t (Some i) = viewed t.values.items i

value_at : (t : Tables) (ks : List Known) (p : Known → Bool) (o : Option ℕ) → map value_view t.values.items ≡ map constant_of ks → o ≡ first_place p ks → option_and_then (value_in t) o ≡ first_value p ks
value_at t ks p o values is = viewed_at t o ∙ (λ j. option_and_then (slice_get (values j)) (is j)) ∙ at_first p ks

-- Tables of which the places are known tell the constants.
knows_by : (t : Tables) (ks : List Known) → map value_view t.values.items ≡ map constant_of ks
    → ((i : ℕ) → at_number i t.numbers.entries ≡ first_place (has_number i) ks)
    → ((n : ℕ) (x : List ℕ) → at_name n x t.bodies.entries ≡ first_place (is_in_body n x) ks)
    → ((n : ℕ) (e x : List ℕ) → at_path n e x t.enums.entries ≡ first_place (is_in_enum n e x) ks)
    → Knows t ks
knows_by t ks values numbers bodies enums = record {
  values = values;
  number_places = numbers;
  body_places = bodies;
  enum_places = enums;
  numbers = λ i. value_at t ks (has_number i) (at_number i t.numbers.entries) values (numbers i);
  bodies = λ n x. value_at t ks (is_in_body n x) (at_name n x t.bodies.entries) values (bodies n x);
  enums = λ n e x. value_at t ks (is_in_enum n e x) (at_path n e x t.enums.entries) values (enums n e x);
}

-- the last of the members is found where none before it is
abbrev or_last : Option ℕ → Bool → ℕ → Option ℕ
or_last o b i = option_or o (if b then Some i else None)

pub knows_more : (old new : Tables) (ks : List Known) (k : Known) (v : Option ConstantValue) (place : ℕ) → Knows old ks
    → place ≡ length old.values.items → new.values.items ≡ old.values.items ++ v ∷ [] → value_view v ≡ k.value
    → ((i : ℕ) → at_number i new.numbers.entries ≡ or_last (at_number i old.numbers.entries) (has_number i k) place)
    → ((n : ℕ) (x : List ℕ) → at_name n x new.bodies.entries ≡ or_last (at_name n x old.bodies.entries) (is_in_body n x k) place)
    → ((n : ℕ) (e x : List ℕ) → at_path n e x new.enums.entries ≡ or_last (at_path n e x old.enums.entries) (is_in_enum n e x k) place)
    → Knows new (ks ++ k ∷ [])
knows_more old new ks k v place knows at pushed is numbers bodies enums =
    knows_by new (ks ++ k ∷ [])
    (ap (map value_view) pushed ∙ map-append value_view old.values.items (v ∷ []) ∙ (λ j. knows.values j ++ is j ∷ []) ∙ sym (map-append constant_of ks (k ∷ [])))
    (λ i. numbers i ∙ more (has_number i) (at_number i old.numbers.entries) (knows.number_places i))
    (λ n x. bodies n x ∙ more (is_in_body n x) (at_name n x old.bodies.entries) (knows.body_places n x))
    (λ n e x. enums n e x ∙ more (is_in_enum n e x) (at_path n e x old.enums.entries) (knows.enum_places n e x))
  where
    last : place ≡ length ks
    last = at ∙ sym (length-map old.values.items value_view) ∙ ap length knows.values ∙ length-map ks constant_of

    more : (p : Known → Bool) (o : Option ℕ) → o ≡ first_place p ks → or_last o (p k) place ≡ first_place p (ks ++ k ∷ [])
    more p o before = (λ j. or_last (before j) (p k) (last j)) ∙ sym (place_more p ks k)

-- where there is nothing to put, the table is as it was
pub nameless : (b : Bool) (o : Option ℕ) (i : ℕ) → o ≡ option_or o (if b && false then Some i else None)
nameless true (Some j) i = refl
nameless true None i = refl
nameless false (Some j) i = refl
nameless false None i = refl

where_ok : {T E : Type 0} {P Q : Type 0} (r : Result T E) → (P → Q) → OnOk r P → OnOk r Q
where_ok (Ok x) f p = f p
where_ok (Err e) f p = tt

-- The same of a member that is known to be constant or not, where the last table was put without a fault.
pub knows_put : {T E : Type 0} (r : Result T E) (old new : Tables) (v : Option ConstantValue) (place : ℕ) (is_constant : Bool) (k : Bool → Known)
    → place ≡ length old.values.items → new.values.items ≡ old.values.items ++ v ∷ [] → ((w : Bool) → value_view v ≡ (k w).value) → is_constant ≡ is_some (k true).value
    → ((w : Bool) → k w ≡ record (k true) { is_wide = w })
    → ((i : ℕ) → at_number i new.numbers.entries ≡ or_last (at_number i old.numbers.entries) (has_number i (k true)) place)
    → ((n : ℕ) (x : List ℕ) → at_name n x new.bodies.entries ≡ or_last (at_name n x old.bodies.entries) (is_in_body n x (k true)) place)
    → OnOk r ((n : ℕ) (e x : List ℕ) → at_path n e x new.enums.entries ≡ or_last (at_path n e x old.enums.entries) (is_constant && (is_block_of n e (k true).block && is_named x (k true).member.name)) place)
    → OnOk r ((ks : List Known) (w : Bool) → Knows old ks → Knows new (ks ++ k w ∷ []))
knows_put r old new v place is_constant k at pushed is constant same numbers bodies put =
    where_ok r
    (λ enums ks w knows.
    subst (λ j. Knows new (ks ++ j ∷ [])) (sym (same w))
    (knows_more old new ks (record (k true) { is_wide = w }) v place knows at pushed (is true) numbers bodies
    (λ n e x. enums n e x ∙ ap (λ b. or_last (at_path n e x old.enums.entries) (b && (is_block_of n e (k true).block && is_named x (k true).member.name)) place) constant)))
    put
