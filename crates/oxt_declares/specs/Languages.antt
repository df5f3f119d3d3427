-- Which fields hold the name of a language.
use Rattle.std.specs.Prelude.{Bool, true, false}
use Rattle.oxt_grammar.specs.declared.holds.Holds.{Holds}
use Rattle.oxt_grammar.specs.declared.holds.Holds.TheVariants as holds
use Rattle.oxt_grammar.specs.declared.word.Words.TheVariants as words

-- the field holds the name of a language
abbrev pub is_language : Holds → Bool
is_language (holds.Word words.Lang) = true
is_language h = false
