-- What one word does to a walk over the words.
use Rattle.std.proofs.Common.{◌≡◌, ℕ, Bool, true, false, refl, ap, List, [], ◌∷◌, Option, Some, None, option_map, codes}
use Rattle.std.specs.Prelude.{slice_get}
use Rattle.std.specs.Str.{chars}
use Rattle.std.proofs.lemmas.Str.{chars-nil}
use Rattle.clap.specs.Lexer.{long_of, short_of}
use Rattle.clap.specs.Walk.{Held, Row, Waiting, Walk, after_flag, after_step, idle, long_met, option, positional, subcommand_met, walked}
use Rattle.clap.specs.Simple.{App, Shape, built, new_shape}
use Rattle.clap.specs.Kinds.{Kinds, or_else}
use Rattle.clap.specs.Faults.{bundle_fault, flags_fault, long_fault, step_fault, turn_fault}
use Rattle.oxt_flags.specs.Flags.{FlagData, Text, is_end, with_value}
use Rattle.oxt_flags.specs.Matching.{app_with, full_rule}
use Rattle.oxt_flags.proofs.Rules.{all_filled, by_id, by_index, by_long, by_short, named, rules_for, same_text}

abbrev shape_of_rules : List Rattle.clap.specs.Walk.Rule → Shape
shape_of_rules rules = record (new_shape (codes "oxt")) {
  rules = rules;
  no_binary_name = true;
  disable_help_flag = true;
  disable_help_subcommand = true;
  is_built = true;
}

abbrev pub shape_for : List FlagData → Shape
shape_for fs = shape_of_rules (rules_for fs)

abbrev pub app_of_shape : Shape → App
app_of_shape s = record { top = s; subs = [] }

-- the command as built
pub built_is : (fs : List FlagData) → built (app_with fs) ≡ app_of_shape (shape_for fs)
built_is fs = ap (λ (rules : List Rattle.clap.specs.Walk.Rule). app_of_shape (shape_of_rules rules)) (all_filled fs 1)

abbrev pub held : Option (Text × List Text) → List Row → Held
held p rows = record { rows = rows; pending = p; skip = 0 }

abbrev pub stand : Waiting → Bool → Option (Text × List Text) → List Row → Walk
stand wt trailing p rows = record { held = held p rows; waiting = wt; position = 1; is_trailing = trailing; stopped = None }

no_subcommand : (wt : Waiting) (word : Text) → subcommand_met [] wt word ≡ None
no_subcommand idle word = refl
no_subcommand (option n) word = refl
no_subcommand positional word = refl

pub front : (a b : Kinds) → or_else a b ≡ [] → a ≡ []
front [] b e = refl
front (k ∷ ks) b e = e

pub back : (a b : Kinds) → or_else a b ≡ [] → b ≡ []
back [] b e = e
back (k ∷ ks) b e = absurd (cc)

bundle_bad : (fs : List FlagData) (flags : Text) (p : Option (Text × List Text)) (rows : List Row) (x : ℕ) → slice_get (chars flags) 0 ≡ Some x
    → bundle_fault (rules_for fs) false flags (held p rows) ≡ [] → ⊥
unfolding flags_fault
bundle_bad fs [] p rows x first is = let bad = rw chars-nil at first in cc
bundle_bad fs (y ∷ ys) p rows x first is = let bad = rw (first, by_short fs x) at is in cc

module _ (fs : List FlagData) (wt : Waiting) (p : Option (Text × List Text)) (rows : List Row) (word : Text) where
  -- `--`
  pub end_turn : is_end word ≡ true → turn_fault (shape_for fs) [] (stand wt false p rows) word ≡ []
  end_turn e = rw (no_subcommand wt word, e) refl

  pub end_walked : is_end word ≡ true → walked (rules_for fs) [] (stand wt false p rows) word ≡ stand wt true p rows
  unfolding walked
  end_walked e = rw (no_subcommand wt word, e) refl

  -- a word after `--`
  pub trailing_turn : turn_fault (shape_for fs) [] (stand wt true p rows) word ≡ [] → ⊥
  trailing_turn e = let bad = rw (by_index fs 1) at e in cc

  -- `--name` or `--name=value`
  abbrev pub long_turn : Option FlagData → Option Text → Kinds
  long_turn o v =
      or_else (long_fault (rules_for fs) false (option_map full_rule o) v (held p rows))
      (step_fault (shape_for fs) 1
      (after_flag (rules_for fs) wt word (long_met (rules_for fs) (option_map full_rule o) v (held p rows)).0
      (long_met (rules_for fs) (option_map full_rule o) v (held p rows)).1).0
      (after_flag (rules_for fs) wt word (long_met (rules_for fs) (option_map full_rule o) v (held p rows)).0
      (long_met (rules_for fs) (option_map full_rule o) v (held p rows)).1).1)

  abbrev pub long_walk : Option FlagData → Option Text → Walk
  long_walk o v =
      after_step (rules_for fs) word (stand wt false p rows)
      (after_flag (rules_for fs) wt word (long_met (rules_for fs) (option_map full_rule o) v (held p rows)).0
      (long_met (rules_for fs) (option_map full_rule o) v (held p rows)).1).0
      (after_flag (rules_for fs) wt word (long_met (rules_for fs) (option_map full_rule o) v (held p rows)).0
      (long_met (rules_for fs) (option_map full_rule o) v (held p rows)).1).1

  pub long_turned : (q : Text × Option Text) → is_end word ≡ false → long_of word ≡ Some q
      → turn_fault (shape_for fs) [] (stand wt false p rows) word ≡ long_turn (named fs q.0) q.1
  long_turned q e l = rw (no_subcommand wt word, e, l, by_long fs q.0) refl

  pub long_walked : (q : Text × Option Text) → is_end word ≡ false → long_of word ≡ Some q
      → walked (rules_for fs) [] (stand wt false p rows) word ≡ long_walk (named fs q.0) q.1
  unfolding walked
  long_walked q e l = rw (no_subcommand wt word, e, l, by_long fs q.0) refl

  -- a word with one hyphen before it: no flag has a short form
  pub short_turn : (flags : Text) (x : ℕ) → is_end word ≡ false → long_of word ≡ None → short_of word ≡ Some flags → slice_get (chars flags) 0 ≡ Some x
      → turn_fault (shape_for fs) [] (stand wt false p rows) word ≡ [] → ⊥
  short_turn flags x e l s first is =
      let turned = rw (no_subcommand wt word, e, l, s) at is in
      bundle_bad fs flags p rows x first (front _ _ turned)

-- any other word, where no value is awaited
pub stray_turn : (fs : List FlagData) (p : Option (Text × List Text)) (rows : List Row) (word : Text) → is_end word ≡ false → long_of word ≡ None → short_of word ≡ None
    → turn_fault (shape_for fs) [] (stand idle false p rows) word ≡ [] → ⊥
stray_turn fs p rows word e l s is = let bad = rw (e, l, s, by_index fs 1) at is in cc

-- the value that is awaited
pub value_turn : (fs : List FlagData) (n : Text) (p : Option (Text × List Text)) (rows : List Row) (word : Text) → is_end word ≡ false → long_of word ≡ None → short_of word ≡ None
    → turn_fault (shape_for fs) [] (stand (option n) false p rows) word ≡ []
value_turn fs n p rows word e l s = rw (e, l, s) refl

pub value_walked : (fs : List FlagData) (n : Text) (rows : List Row) (word : Text) → named fs n ≡ Some (with_value n)
    → is_end word ≡ false → long_of word ≡ None → short_of word ≡ None
    → walked (rules_for fs) [] (stand (option n) false (Some (n, [])) rows) word ≡ stand idle false (Some (n, word ∷ [])) rows
unfolding walked
value_walked fs n rows word found e l s = rw (e, l, s, by_id fs n, found, same_text n) refl
