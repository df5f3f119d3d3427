-- What is known of a source, with which its output is compared.
use Rattle.std.specs.Prelude.{ℕ, List, [], Bool, Option, false}
use Rattle.oxt_check.specs.Faults.{facts_of, first_fault}
use Rattle.oxt_check.specs.Refusals.{Refusal}
use Rattle.oxt_facts.specs.Facts.{Known, of_output, of_told_source}
use Rattle.oxt_facts.specs.Entry.{Entry, entries}
use Rattle.oxt_facts.specs.Owners.{Owners}
use Rattle.oxt_resolve.specs.Groups.{groups_of}
use Rattle.oxt_told.specs.Source.{Asked}
use Rattle.oxt_told.specs.Whole.{told_of_source}
use Rattle.oxt_options.specs.Options.{TransformData}
use Rattle.oxt_options.specs.Facts.{Facts, is_in, last_alias, last_constant}
use Rattle.oxt_options.specs.Metadata.{last_type}
use Rattle.oxt_resolve.specs.Resolved.{resolved}
use Rattle.oxt_scoping.specs.Scoped.{Scoped}
use Rattle.oxt_check.specs.Targets.{targets}
use Rattle.oxt_modules.specs.Due.{is_export_due}
use Rattle.oxt_certificate.specs.Settings.{SettingsData, settings_by, settings_view}
use Rattle.oxt_certificate.specs.declared.expected.Expected.{Expected}
use Rattle.oxt_tree.specs.Doc.{Doc}
use Rattle.oxt_names.specs.Made.{all_added}
use Rattle.oxt_resolve.specs.Names.{names}
use Rattle.oxt_word.specs.Word.{word}

-- the first fault of a source under the options
abbrev pub fault_of : TransformData → Doc → Option Refusal
fault_of o source = first_fault (resolved o.decorator.legacy source) source o

-- the names of a source
abbrev pub names_of : Doc → List (List ℕ)
names_of source = all_added (names source) []

-- what lists of nodes say of each of them; of several constants of one expression the last counts
abbrev pub listed_in : Facts → Asked
listed_in l =
    record {
      kept = is_in l.kept;
      first = is_in l.first;
      dropped = is_in l.dropped;
      inlined = last_constant l.inlined;
      never = is_in l.never_written;
      alias = last_alias l.aliases;
      metadata = last_type l.metadata;
      written = last_alias l.written;
    }

-- what is asked of the nodes of a source, of which that is the table of scopes and symbols, under the options
abbrev pub asked_by : Scoped → TransformData → Doc → Asked
asked_by s o source = listed_in (facts_of s source o)

abbrev pub asked : TransformData → Doc → Asked
asked o source = asked_by (resolved o.decorator.legacy source) o source

-- what of imports and exports is kept under the options, by the numbers of the nodes
abbrev pub keeps : TransformData → Doc → ℕ → Bool
keeps o source = (asked o source).kept

-- whether an output of a source of whose nodes that is asked has to say by `export {}` that it is a module
abbrev pub due_by : Asked → TransformData → Doc → Bool
due_by p o source = is_export_due p.kept p.first o.typescript.only_remove_type_imports source

abbrev pub is_due : TransformData → Doc → Bool
is_due o source = due_by (asked o source) o source

-- The effect word of a source under the options, of whose nodes that is asked and of which that is the table: each name
-- with its group, by these.
abbrev pub source_word_by : Scoped → Owners → Asked → TransformData → Doc → List Entry
source_word_by s g p o source = word (of_told_source (told_of_source s p o source) g) source

-- the effect word of a source under the options
abbrev pub source_word : TransformData → Doc → List Entry
source_word o source = source_word_by (resolved o.decorator.legacy source) (groups_of o.decorator.legacy source) (asked o source) o source

-- what is known of the names of what was made of a source that has these names: which are made, and their groups
abbrev pub known_of_output : List (List ℕ) → Doc → Known
known_of_output names output = of_output names (groups_of false output) output

-- the effect word of what was made of a source that has these names
abbrev pub output_word : List (List ℕ) → Doc → List Entry
output_word names output = word (known_of_output names output) output

-- the effect word of the output, the names of the source, the settings of the output, and the numbers of the wrappers
-- that may stay
pub record ExpectedData : Type 0 where
  pub word : List Entry
  pub names : List (List ℕ)
  pub settings : SettingsData
  pub staying : List ℕ

abbrev pub expected_view : Expected → ExpectedData
expected_view x =
    record {
      word = entries x.word.items;
      names = x.names;
      settings = settings_view x.settings;
      staying = x.targets;
    }

-- What is expected under the options of the output of a source of whose nodes that is asked and of which that is the
-- table, with these groups of its names and these taken names, beside wrappers of these numbers.
abbrev pub expected_beside : List ℕ → Scoped → Owners → List (List ℕ) → Asked → TransformData → Doc → ExpectedData
expected_beside staying s g taken p o source =
    record {
      word = source_word_by s g p o source;
      names = taken;
      settings = settings_by (due_by p o source) o.decorator.legacy source;
      staying = staying;
    }

-- the same beside those that may stay
abbrev pub expected_by : Scoped → Owners → List (List ℕ) → Asked → TransformData → Doc → ExpectedData
expected_by s g taken p o source = expected_beside (targets o.decorator.legacy source) s g taken p o source

-- what is expected of the output of a source under the options
abbrev pub expected_of : TransformData → Doc → ExpectedData
expected_of o source = expected_by (resolved o.decorator.legacy source) (groups_of o.decorator.legacy source) (names_of source) (asked o source) o source
