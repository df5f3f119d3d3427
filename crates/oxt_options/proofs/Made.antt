-- A plan that is made in steps says what its lists say.
use Rattle.std.proofs.Common.{◌≡◌, ap, ◌∙◌, ℕ}
use Rattle.oxt_options.specs.Facts.{Answers, Facts, HasTables, SameNodes, alias_at, constant_at, is_in, last_alias, last_constant}
use Rattle.oxt_options.specs.Metadata.{last_type, type_at}

-- four tables that are put one after the other leave the lists of nodes as they were
pub same_nodes : (before inlined aliases metadata all : Facts)
    → inlined ≡ record before { inlined = inlined.inlined } → aliases ≡ record inlined { aliases = aliases.aliases }
    → metadata ≡ record aliases { metadata = metadata.metadata } → all ≡ record metadata { written = all.written } → SameNodes all before
same_nodes before inlined aliases metadata all one two three four =
    record {
      kept = ap (λ (f : Facts). f.kept) four ∙ ap (λ (f : Facts). f.kept) three ∙ ap (λ (f : Facts). f.kept) two ∙ ap (λ (f : Facts). f.kept) one;
      first = ap (λ (f : Facts). f.first) four ∙ ap (λ (f : Facts). f.first) three ∙ ap (λ (f : Facts). f.first) two ∙ ap (λ (f : Facts). f.first) one;
      dropped = ap (λ (f : Facts). f.dropped) four ∙ ap (λ (f : Facts). f.dropped) three ∙ ap (λ (f : Facts). f.dropped) two ∙ ap (λ (f : Facts). f.dropped) one;
      never_written = ap (λ (f : Facts). f.never_written) four ∙ ap (λ (f : Facts). f.never_written) three ∙ ap (λ (f : Facts). f.never_written) two ∙ ap (λ (f : Facts). f.never_written) one;
    }

-- and each stays when the next are put
pub has_tables : (inlined aliases metadata all listed : Facts) → ((n : ℕ) → constant_at inlined.inlined n ≡ last_constant listed.inlined n)
    → aliases ≡ record inlined { aliases = aliases.aliases } → ((n : ℕ) → alias_at aliases.aliases n ≡ last_alias listed.aliases n)
    → metadata ≡ record aliases { metadata = metadata.metadata } → ((n : ℕ) → type_at metadata.metadata n ≡ last_type listed.metadata n)
    → all ≡ record metadata { written = all.written } → ((n : ℕ) → alias_at all.written n ≡ last_alias listed.written n) → HasTables all listed
has_tables inlined aliases metadata all listed constants two classes three types four names =
    record {
      inlined = λ n. ap (λ (f : Facts). constant_at f.inlined n) four ∙ ap (λ (f : Facts). constant_at f.inlined n) three ∙ ap (λ (f : Facts). constant_at f.inlined n) two ∙ constants n;
      aliases = λ n. ap (λ (f : Facts). alias_at f.aliases n) four ∙ ap (λ (f : Facts). alias_at f.aliases n) three ∙ classes n;
      metadata = λ n. ap (λ (f : Facts). type_at f.metadata n) four ∙ types n;
      written = names;
    }

-- what lists of nodes gave, with the tables
pub all_known : (nodes all listed : Facts)
    → ((n : ℕ) → is_in nodes.kept n ≡ is_in listed.kept n) → ((n : ℕ) → is_in nodes.first n ≡ is_in listed.first n)
    → ((n : ℕ) → is_in nodes.dropped n ≡ is_in listed.dropped n) → ((n : ℕ) → is_in nodes.never_written n ≡ is_in listed.never_written n)
    → SameNodes all nodes → HasTables all listed → Answers all listed
all_known nodes all listed kept first dropped never same tables =
    record {
      kept = λ n. ap (λ l. is_in l n) same.kept ∙ kept n;
      first = λ n. ap (λ l. is_in l n) same.first ∙ first n;
      dropped = λ n. ap (λ l. is_in l n) same.dropped ∙ dropped n;
      inlined = tables.inlined;
      never_written = λ n. ap (λ l. is_in l n) same.never_written ∙ never n;
      aliases = tables.aliases;
      metadata = tables.metadata;
      written = tables.written;
    }
