-- What `clap` matches at the flags.
use Rattle.std.specs.Prelude.{Bool, true, false, List, [], ◌∷◌, map, Option, Some, None, codes, find, option_and_then}
use Rattle.std.specs.List.{fold}
use Rattle.std.specs.Str.{bytes_eq}
use Rattle.clap.specs.Walk.{Row, Rule, first_of, with_default}
use Rattle.clap.specs.Simple.{App, new_app, new_rule, new_shape, filled}
use Rattle.clap.specs.declared.builder.action.ArgAction.{ArgAction}
use Rattle.clap.specs.declared.builder.action.ArgAction.TheVariants.{Set, SetTrue}
use Rattle.clap.specs.declared.parser.matches.ValueSource.{ValueSource}
use Rattle.clap.specs.declared.parser.matches.ValueSource.TheVariants.{CommandLine}
use Rattle.clap.specs.declared.builder.value_parser.Reading.TheVariants as reading
use Rattle.oxt_flags.specs.Flags.{FlagData, Given, Text, chosen_by, flags, options_by}
use Rattle.oxt_options.specs.Options.{TransformData}
use Rattle.oxt_options.specs.declared.options.Module.{Module}
use Rattle.oxt_options.specs.declared.rewrite.RewriteExtensionsMode.{RewriteExtensionsMode}

abbrev pub action_for : Bool → ArgAction
action_for true = Set
action_for false = SetTrue

-- the argument of a flag
abbrev pub rule_for : FlagData → Rule
rule_for f = record (new_rule f.name) { long = Some f.name; action = Some (action_for f.takes_value) }

-- the command with these arguments, and no other flag
abbrev pub app_of_rules : List Rule → App
app_of_rules rules = record (new_app (codes "oxt")) {
  top = record (new_shape (codes "oxt")) {
    rules = rules;
    no_binary_name = true;
    disable_help_flag = true;
  };
}

abbrev pub app_with : List FlagData → App
app_with fs = app_of_rules (map rule_for fs)

-- the same argument with all that it left out
abbrev pub full_rule : FlagData → Rule
full_rule f = filled (rule_for f)

-- what is found for a flag that was given
abbrev pub given_row : Given → Row
given_row g = record {
  id = g.0;
  values = g.1 ∷ [];
  count = None;
  source = Some CommandLine;
  reading = reading.AsWritten;
}

-- what is found where these were given
abbrev pub rows_for : List FlagData → List Given → List Row
rows_for fs gs = fold with_default (map given_row gs) (map full_rule fs)

abbrev pub found_rows : List Given → List Row
found_rows = rows_for flags

-- ---- the options

abbrev pub is_words : Option ValueSource → Bool
is_words (Some CommandLine) = true
is_words _ = false

-- the words use the argument
abbrev pub is_used : Text → List Row → Bool
is_used id rows = is_words (option_and_then (λ (r : Row). r.source) (find (λ r. bytes_eq r.id id) rows))

-- the options that the matches say; none where a word is none of its list
abbrev pub options_in : List Row → Option TransformData
options_in rows = chosen_by (λ name. first_of name rows) (λ name. is_used name rows)

-- the same with what was chosen
abbrev pub options_for : List Row → Module → Option RewriteExtensionsMode → TransformData
options_for rows = options_by (λ name. first_of name rows) (λ name. is_used name rows)
