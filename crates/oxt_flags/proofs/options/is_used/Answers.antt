use Rattle.std.proofs.Common.{ap, ◌∙◌}
use Rattle.clap.specs.Words.{found_of}
use Rattle.oxt_flags.specs.Matching.{is_words}
use Rattle.oxt_flags.proofs.Lookups.{source-rows}
use Rattle.oxt_flags.proofs.options.is_used.Goals as goal

pub returns : goal.returns
returns c = c.is_words.ensures ∙ ap is_words (c.value_source.ensures ∙ source-rows (found_of c.args.matches.now) c.args.flag.now)
