-- What the command takes, and what it then finds.
use Rattle.std.proofs.Common.{◌≡◌, ◌∙◌, ◌||◌, Bool, true, false, suc, arith, refl, sym, ap, cond, List, [], ◌∷◌, map, Option, Some, None, option_map}
use denote.Ref.{Bor}
use Rattle.std.specs.Prelude.{is_some}
use Rattle.std.specs.List.{All, fold}
use Rattle.std.specs.Str.{IsUtf8}
use Rattle.clap.specs.Walk.{Row, has_row, idle, nothing_held, walk, with_default}
use Rattle.clap.specs.Simple.{App, built, entered, is_simple, matches_of}
use Rattle.clap.specs.Kinds.{Kinds, or_else}
use Rattle.clap.specs.Faults.{built_fault, check_fault, default_fault, defaults_fault, entered_fault, fault_of, given_default_fault, is_simple_and_free}
use Rattle.oxt_flags.specs.Flags.{FlagData, Given, Text, flag, flags, given_by}
use Rattle.oxt_flags.specs.Matching.{app_with, found_rows, full_rule}
use Rattle.oxt_flags.proofs.Rules.{rules_for}
use Rattle.oxt_flags.proofs.Turns.{app_of_shape, built_is, shape_for, stand}
use Rattle.oxt_flags.proofs.Walks.{Agrees, AreTexts, Rests, agrees, rest_fault, rest_rows}

pub simple : is_simple (app_with flags) ≡ true
simple = refl

pub simple_and_free : is_simple_and_free (app_with flags) ≡ true
simple_and_free = refl

-- ---- what comes after the words is no fault

default_fine : (rows : List Row) (name : Text) (b : Bool) → default_fault rows (full_rule (record { name = name; takes_value = b })) ≡ []
default_fine rows name true = go (has_row name rows)
  where
    go : (h : Bool) → cond (h || true) [] (given_default_fault (full_rule (record { name = name; takes_value = true })) []) ≡ []
    go true = refl
    go false = refl
default_fine rows name false = go (has_row name rows)
  where
    go : (h : Bool) → cond (h || false) [] (given_default_fault (full_rule (record { name = name; takes_value = false })) (full_rule (record { name = name; takes_value = false })).defaults) ≡ []
    go true = refl
    go false = refl

defaults_fine : (fs : List FlagData) (rows : List Row) → defaults_fault rows (rules_for fs) ≡ []
unfolding defaults_fault
defaults_fine [] rows = refl
defaults_fine (f ∷ fs) rows =
    ap (λ (t : Kinds). or_else t (defaults_fault (with_default rows (full_rule f)) (rules_for fs))) (default_fine rows f.name f.takes_value)
    ∙ defaults_fine fs (with_default rows (full_rule f))

none_required : (fs : List FlagData) (rows : List Row) → check_fault (shape_for fs) rows false ≡ []
none_required [] rows = refl
none_required (f ∷ fs) rows = none_required fs rows

module _ (fs : List FlagData) where
  abbrev app : App
  app = app_of_shape (shape_for fs)

  none_entered : (stop : Option (Text × List Text)) → is_some (entered app stop) ≡ false
  none_entered None = refl
  none_entered (Some p) = refl

  none_below : (stop : Option (Text × List Text)) → entered_fault app stop ≡ []
  none_below None = refl
  none_below (Some p) = refl

or_nothing : (a : Kinds) → or_else a [] ≡ a
or_nothing [] = refl
or_nothing (k ∷ ks) = refl

pub fault_is : (fs : List FlagData) (words : List Text) → fault_of (app_with fs) words ≡ rest_fault fs (stand idle false None []) words
fault_is fs words =
    let end = walk (rules_for fs) [] nothing_held words in
    ap (λ (a : App). built_fault a nothing_held words) (built_is fs)
    ∙ rw (none_entered fs end.stopped, none_below fs end.stopped, defaults_fine fs (Rattle.clap.specs.Walk.settled (rules_for fs) end.held).rows, none_required fs (Rattle.clap.specs.Walk.finished (rules_for fs) end.held))
    (ap (λ (t : Kinds). or_else (Rattle.clap.specs.Faults.walk_fault (shape_for fs) [] (stand idle false None []) words) t) (or_nothing _))

pub matches_are : (fs : List FlagData) (words : List Text) → matches_of (app_with fs) words ≡ fold with_default (rest_rows fs (stand idle false None []) words) (rules_for fs)
matches_are fs words = ap (λ (a : App). Rattle.clap.specs.Walk.rows_after a.top.rules (Rattle.clap.specs.Simple.names_of a) words) (built_is fs)

texts_are : (ws : List (Bor Text)) → All (λ (w : Bor Text). IsUtf8 w.now) ws → AreTexts (map (λ (w : Bor Text). w.now) ws)
texts_are [] a = tt
texts_are (w ∷ ws) a = (a 0 w (omega arith), texts_are ws (λ k d lt. a (suc k) d (omega arith)))

starts : (fs : List FlagData) → Rests fs [] None []
starts fs = record { fine = refl; same = refl }

agrees_whole : (words : List Text) → AreTexts words → Agrees flags (given_by words) (stand idle false None []) words
agrees_whole words texts = agrees flags words texts flag [] (stand idle false None []) (None, [], refl, starts flags)

taken : (words : List Text) (rows : List Row) (o : Option (List Given)) → Agrees flags o (stand idle false None []) words
    → fault_of (app_with flags) words ≡ [] → rows ≡ matches_of (app_with flags) words → Some rows ≡ option_map found_rows o
taken words rows None a fine is = absurd (a (sym (fault_is flags words) ∙ fine))
taken words rows (Some gs) a fine is =
    ap Some (is ∙ matches_are flags words ∙ ap (λ (rs : List Row). fold with_default rs (rules_for flags)) a.1)

refused : (words : List Text) (o : Option (List Given)) → Agrees flags o (stand idle false None []) words
    → (fault_of (app_with flags) words ≡ [] → ⊥) → None ≡ option_map found_rows o
refused words None a bad = refl
refused words (Some gs) a bad = absurd (bad (fault_is flags words ∙ a.0))

-- where the command takes the words
pub found_where_taken : (ws : List (Bor Text)) (a : App) (rows : List Row) → All (λ (w : Bor Text). IsUtf8 w.now) ws → a ≡ app_with flags
    → fault_of a (map (λ (w : Bor Text). w.now) ws) ≡ [] → rows ≡ matches_of a (map (λ (w : Bor Text). w.now) ws)
    → Some rows ≡ option_map found_rows (given_by (map (λ (w : Bor Text). w.now) ws))
found_where_taken ws a rows texts app fine is =
    let words : List Text = map (λ (w : Bor Text). w.now) ws in
    taken words rows (given_by words) (agrees_whole words (texts_are ws texts)) (sym (ap (λ (x : App). fault_of x words) app) ∙ fine) (is ∙ ap (λ (x : App). matches_of x words) app)

-- where it refuses them
pub none_where_refused : (ws : List (Bor Text)) (a : App) → All (λ (w : Bor Text). IsUtf8 w.now) ws → a ≡ app_with flags
    → (fault_of a (map (λ (w : Bor Text). w.now) ws) ≡ [] → ⊥) → None ≡ option_map found_rows (given_by (map (λ (w : Bor Text). w.now) ws))
none_where_refused ws a texts app bad =
    let words : List Text = map (λ (w : Bor Text). w.now) ws in
    refused words (given_by words) (agrees_whole words (texts_are ws texts)) (λ e. bad (ap (λ (x : App). fault_of x words) app ∙ e))
