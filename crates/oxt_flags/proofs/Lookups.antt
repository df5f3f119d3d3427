-- What is read of the rows, by what was given.
use Rattle.std.proofs.Common.{◌≡◌, ◌∙◌, ◌&&◌, ◌||◌, ◌++◌, Bool, true, false, refl, sym, ap, ap₂, cond, List, [], ◌∷◌, Option, Some, None, option_map}
use Rattle.std.specs.Prelude.{codes, not, option_and_then, slice_get}
use Rattle.std.specs.List.{find, fold, list_any}
use Rattle.std.specs.Option.{option_or}
use Rattle.std.specs.Str.{bytes_eq}
use Rattle.std.proofs.lemmas.List.{append-nil}
use Rattle.std.proofs.lemmas.List.Folds.{find-append}
use Rattle.clap.specs.Walk.{Row, first_of, has_row, more_values, row_of, rows_of, with_default}
use Rattle.clap.specs.declared.builder.value_parser.Reading.TheVariants as reading
use Rattle.clap.specs.declared.parser.matches.ValueSource.TheVariants.{DefaultValue}
use Rattle.clap.specs.Facts.{Entry}
use Rattle.clap.specs.Matches.{matched_of}
use Rattle.clap.specs.declared.parser.matches.Found.{Found}
use Rattle.clap.specs.declared.parser.matches.MatchedArg.{MatchedArg}
use Rattle.clap.proofs.WalkLemmas.{find-map, find_row}
use Rattle.oxt_flags.specs.Choices.{chosen_extensions, chosen_module}
use Rattle.oxt_flags.specs.Flags.{FlagData, Given, Text, flags, given_by, is_given, options_by, options_with, parsed, value_given}
use Rattle.oxt_flags.specs.Matching.{found_rows, full_rule, given_row, is_used, is_words, options_for, options_in}
use Rattle.oxt_flags.proofs.Rules.{rules_for}
use Rattle.oxt_flags.proofs.Uses.{at_row_none, rows_of_given}
use Rattle.oxt_options.specs.Options.{TransformData}
use Rattle.oxt_options.specs.declared.options.Module.{Module}
use Rattle.oxt_options.specs.declared.rewrite.RewriteExtensionsMode.{RewriteExtensionsMode}

-- what is found for a flag without a value that was not given
abbrev default_row : Text → Row
default_row name = record {
  id = name;
  values = codes "false" ∷ [];
  count = None;
  source = Some DefaultValue;
  reading = reading.AsWritten;
}

abbrev more_rows : Text → Bool → Bool → List Row
more_rows name true had = []
more_rows name false true = []
more_rows name false false = default_row name ∷ []

-- a default comes last
default_added : (rows : List Row) (name : Text) (b : Bool) (had : Bool) → has_row name rows ≡ had
    → with_default rows (full_rule (record { name = name; takes_value = b })) ≡ rows ++ more_rows name b had
default_added rows name true true is = rw is (sym (append-nil rows))
default_added rows name true false is = rw is (sym (append-nil rows))
default_added rows name false true is = rw is (sym (append-nil rows))
default_added rows name false false is = rw is (at_row_none name (more_values DefaultValue (codes "false" ∷ [])) (default_row name ∷ []) rows is)

abbrev row_of_id : Text → List Row → Option Row
row_of_id id rows = find (λ (r : Row). bytes_eq r.id id) rows

-- ---- whether the words use a flag

no_more_use : (id name : Text) (b had : Bool) (o : Option Row) → is_words (option_and_then (λ (r : Row). r.source) (option_or o (row_of_id id (more_rows name b had))))
    ≡ is_words (option_and_then (λ (r : Row). r.source) o)
no_more_use id name b had (Some r) = refl
no_more_use id name true had None = refl
no_more_use id name false true None = refl
no_more_use id name false false None = go (bytes_eq name id)
  where
    go : (h : Bool) → is_words (option_and_then (λ (r : Row). r.source) (cond h (Some (default_row name)) None)) ≡ false
    go true = refl
    go false = refl

used_after_default : (id : Text) (rows : List Row) (f : FlagData) → is_used id (with_default rows (full_rule f)) ≡ is_used id rows
used_after_default id rows f =
    ap (is_used id) (default_added rows f.name f.takes_value (has_row f.name rows) refl)
    ∙ ap (λ (o : Option Row). is_words (option_and_then (λ (r : Row). r.source) o)) (find-append (λ (r : Row). bytes_eq r.id id) rows (more_rows f.name f.takes_value (has_row f.name rows)))
    ∙ no_more_use id f.name f.takes_value (has_row f.name rows) (row_of_id id rows)

used_after_defaults : (id : Text) (fs : List FlagData) (rows : List Row) → is_used id (fold with_default rows (rules_for fs)) ≡ is_used id rows
used_after_defaults id [] rows = refl
used_after_defaults id (f ∷ fs) rows = used_after_defaults id fs (with_default rows (full_rule f)) ∙ used_after_default id rows f

used_given : (id : Text) (gs : List Given) → is_used id (rows_of_given gs) ≡ is_given id gs
used_given id [] = refl
used_given id (g ∷ gs) = go (bytes_eq g.0 id) (used_given id gs)
  where
    go : (h : Bool) → is_used id (rows_of_given gs) ≡ is_given id gs
        → is_words (option_and_then (λ (r : Row). r.source) (cond h (Some (given_row g)) (row_of_id id (rows_of_given gs)))) ≡ (h || is_given id gs)
    go true e = refl
    go false e = e

pub is_used_found : (id : Text) (gs : List Given) → is_used id (found_rows gs) ≡ is_given id gs
is_used_found id gs = used_after_defaults id flags (rows_of_given gs) ∙ used_given id gs

-- ---- the value of a flag

-- a flag of this name takes no value
abbrev is_alone : Text → List FlagData → Bool
is_alone id fs = list_any (λ (f : FlagData). bytes_eq f.name id && not f.takes_value) fs

no_more_row : (id name : Text) (b had : Bool) (o : Option Row) → (bytes_eq name id && not b) ≡ false → option_or o (row_of_id id (more_rows name b had)) ≡ o
no_more_row id name b had (Some r) e = refl
no_more_row id name true had None e = refl
no_more_row id name false true None e = refl
no_more_row id name false false None e = go (bytes_eq name id) e
  where
    go : (h : Bool) → (h && true) ≡ false → cond h (Some (default_row name)) None ≡ None
    go true bad = absurd (cc)
    go false ok = refl

split_or : (a b : Bool) → (a || b) ≡ false → (a ≡ false) × (b ≡ false)
split_or true b e = absurd (cc)
split_or false b e = (refl, e)

row_after_defaults : (id : Text) (fs : List FlagData) (rows : List Row) → is_alone id fs ≡ false → row_of_id id (fold with_default rows (rules_for fs)) ≡ row_of_id id rows
row_after_defaults id [] rows e = refl
row_after_defaults id (f ∷ fs) rows e =
    let parts = split_or (bytes_eq f.name id && not f.takes_value) (is_alone id fs) e in
    row_after_defaults id fs (with_default rows (full_rule f)) parts.1
    ∙ ap (row_of_id id) (default_added rows f.name f.takes_value (has_row f.name rows) refl)
    ∙ find-append (λ (r : Row). bytes_eq r.id id) rows (more_rows f.name f.takes_value (has_row f.name rows))
    ∙ no_more_row id f.name f.takes_value (has_row f.name rows) (row_of_id id rows) parts.0

value_of_given : (o : Option Given) → option_and_then (λ (r : Row). slice_get r.values 0) (option_map given_row o) ≡ option_map (λ (g : Given). g.1) o
value_of_given None = refl
value_of_given (Some g) = refl

pub value_found : (id : Text) (gs : List Given) → is_alone id flags ≡ false → first_of id (found_rows gs) ≡ value_given id gs
value_found id gs e =
    ap (option_and_then (λ (r : Row). slice_get r.values 0)) (row_after_defaults id flags (rows_of_given gs) e ∙ sym (find-map (λ (r : Row). bytes_eq r.id id) given_row gs))
    ∙ value_of_given (find (λ (g : Given). bytes_eq g.0 id) gs)

-- ---- the options

same_options : (gs : List Given) (m : Module) (e : Option RewriteExtensionsMode)
    → options_for (found_rows gs) m e ≡ options_by (λ name. value_given name gs) (λ name. is_given name gs) m e
same_options gs m e =
    rw (value_found (codes "jsx-pragma") gs refl, value_found (codes "jsx-pragma-frag") gs refl, is_used_found (codes "legacy") gs, is_used_found (codes "emit-decorator-metadata") gs, is_used_found (codes "no-strict-null-checks") gs, is_used_found (codes "no-namespaces") gs, is_used_found (codes "no-declare-fields") gs, is_used_found (codes "remove-empty-fields") gs, is_used_found (codes "set-public-class-fields") gs, is_used_found (codes "only-remove-type-imports") gs, is_used_found (codes "optimize-const-enums") gs, is_used_found (codes "optimize-enums") gs) refl

-- the options with what was chosen, if all was
abbrev with_chosen : (Module → Option RewriteExtensionsMode → TransformData) → Option Text → Option Text → Option TransformData
with_chosen f m e = option_and_then (λ (x : Module). option_map (f x) (chosen_extensions e)) (chosen_module m)

chosen_alike : (f g : Module → Option RewriteExtensionsMode → TransformData) → ((m : Module) (e : Option RewriteExtensionsMode) → f m e ≡ g m e)
    → (m e : Option Text) → with_chosen f m e ≡ with_chosen g m e
chosen_alike f g same m e = go (chosen_module m) (chosen_extensions e)
  where
    go : (x : Option Module) (y : Option (Option RewriteExtensionsMode)) → option_and_then (λ (z : Module). option_map (f z) y) x ≡ option_and_then (λ (z : Module). option_map (g z) y) x
    go None y = refl
    go (Some x) None = refl
    go (Some x) (Some y) = ap Some (same x y)

pub options_found : (gs : List Given) → options_in (found_rows gs) ≡ options_with gs
options_found gs =
    ap₂ (with_chosen (options_for (found_rows gs))) (value_found (codes "module") gs refl) (value_found (codes "rewrite-extensions") gs refl)
    ∙ chosen_alike _ _ (same_options gs) (value_given (codes "module") gs) (value_given (codes "rewrite-extensions") gs)

-- the options that the words say
pub options_said : (words : List Text) (rows : List Row) → Some rows ≡ option_map found_rows (given_by words) → options_in rows ≡ parsed words
options_said words rows found = go (given_by words) found
  where
    go : (o : Option (List Given)) → Some rows ≡ option_map found_rows o → options_in rows ≡ option_and_then options_with o
    go None e = absurd (cc)
    go (Some gs) e = let same : rows ≡ found_rows gs = cc in ap options_in same ∙ options_found gs

-- ---- what the getters read, by the rows

pub source-rows : (f : Found) (id : Text) → option_and_then (λ (a : MatchedArg). a.source) (matched_of f id) ≡ option_and_then (λ (r : Row). r.source) (row_of_id id (rows_of f))
source-rows f id = go (find (λ (e : Entry). bytes_eq e.0.now id) f.entries.items) ∙ ap (option_and_then (λ (r : Row). r.source)) (sym (find_row f.entries.items id))
  where
    go : (o : Option Entry) → option_and_then (λ (a : MatchedArg). a.source) (option_map (λ (e : Entry). e.1) o) ≡ option_and_then (λ (r : Row). r.source) (option_map row_of o)
    go None = refl
    go (Some e) = refl
