-- What a use of a flag does to what was found, and when it is a fault.
use Rattle.std.proofs.Common.{◌≡◌, ◌∙◌, ◌||◌, ◌++◌, Bool, true, false, refl, sym, ap, List, [], ◌∷◌, map, codes}
use Rattle.std.proofs.lemmas.Bool.{true≢false}
use Rattle.std.proofs.lemmas.List.{append-nil, map-append}
use Rattle.std.specs.Str.{bytes_eq}
use Rattle.clap.specs.Walk.{Row, at_row, has_row, more_values, used, with_values}
use Rattle.clap.specs.Faults.{use_fault}
use Rattle.clap.specs.declared.builder.value_parser.Reading.TheVariants as reading
use Rattle.clap.specs.declared.parser.matches.ValueSource.TheVariants.{CommandLine}
use Rattle.clap.proofs.WalkLemmas.{list_any-map}
use Rattle.oxt_flags.specs.Flags.{Given, Text, alone, is_given, with_value}
use Rattle.oxt_flags.specs.Matching.{full_rule, given_row}

abbrev pub rows_of_given : List Given → List Row
rows_of_given gs = map given_row gs

or_false : (a b : Bool) → (a || b) ≡ false → (a ≡ false) × (b ≡ false)
or_false true b e = absurd (true≢false e)
or_false false b e = (refl, e)

pub at_row_none : (id : Text) (change : Row → List Row) (missing rows : List Row) → has_row id rows ≡ false → at_row id change missing rows ≡ rows ++ missing
at_row_none id change missing [] e = refl
at_row_none id change missing (r ∷ rs) e =
    let parts = or_false (bytes_eq r.id id) (has_row id rs) e in
    let miss : bytes_eq r.id id ≡ false = parts.0 in
    rw miss (ap (λ (t : List Row). r ∷ t) (at_row_none id change missing rs parts.1))

has_given : (name : Text) (gs : List Given) → has_row name (rows_of_given gs) ≡ is_given name gs
has_given name gs = sym (list_any-map (λ (r : Row). bytes_eq r.id name) given_row gs)

-- a flag that was not given before gets its row at the end
row_added : (name v : Text) (gs : List Given) → is_given name gs ≡ false
    → with_values name reading.AsWritten CommandLine (v ∷ []) (at_row name (λ _. []) [] (rows_of_given gs)) ≡ rows_of_given (gs ++ (name, v) ∷ [])
row_added name v gs new =
    let free : has_row name (rows_of_given gs) ≡ false = has_given name gs ∙ new in
    ap (λ (rs : List Row). with_values name reading.AsWritten CommandLine (v ∷ []) rs)
    (at_row_none name (λ _. []) [] (rows_of_given gs) free ∙ append-nil (rows_of_given gs))
    ∙ at_row_none name (more_values CommandLine (v ∷ [])) (given_row (name, v) ∷ []) (rows_of_given gs) free
    ∙ sym (map-append given_row gs ((name, v) ∷ []))

pub used_value : (name v : Text) (gs : List Given) → is_given name gs ≡ false
    → used (full_rule (with_value name)) (v ∷ []) (rows_of_given gs) ≡ rows_of_given (gs ++ (name, v) ∷ [])
used_value = row_added

pub used_alone : (name : Text) (gs : List Given) → is_given name gs ≡ false
    → used (full_rule (alone name)) [] (rows_of_given gs) ≡ rows_of_given (gs ++ (name, codes "true") ∷ [])
used_alone name gs new = row_added name (codes "true") gs new

pub value_fine : (name v : Text) (gs : List Given) → is_given name gs ≡ false → use_fault false (full_rule (with_value name)) (v ∷ []) (rows_of_given gs) ≡ []
value_fine name v gs new = let free : has_row name (rows_of_given gs) ≡ false = has_given name gs ∙ new in rw free refl

pub alone_fine : (name : Text) (gs : List Given) → is_given name gs ≡ false → use_fault false (full_rule (alone name)) [] (rows_of_given gs) ≡ []
alone_fine name gs new = let free : has_row name (rows_of_given gs) ≡ false = has_given name gs ∙ new in rw free refl

pub value_again : (name v : Text) (gs : List Given) → is_given name gs ≡ true → use_fault false (full_rule (with_value name)) (v ∷ []) (rows_of_given gs) ≡ [] → ⊥
value_again name v gs old e =
    let taken : has_row name (rows_of_given gs) ≡ true = has_given name gs ∙ old in
    let bad = rw taken at e in cc

pub alone_again : (name : Text) (gs : List Given) → is_given name gs ≡ true → use_fault false (full_rule (alone name)) [] (rows_of_given gs) ≡ [] → ⊥
alone_again name gs old e =
    let taken : has_row name (rows_of_given gs) ≡ true = has_given name gs ∙ old in
    let bad = rw taken at e in cc
