-- The front of a text is an underscore, or it has none.
use Rattle.std.proofs.Common.{lit<}
use Rattle.std.proofs.lemmas.Str.Pattern.{strip_prefix_char}
use Rattle.oxt_names.proofs.Trims.{unless_underscore}
use Rattle.oxt_names.proofs.base.without_underscore.Goals as goal

pub returns : goal.returns
returns c = unless_underscore c.args.text.now c.strip_prefix.result (strip_prefix_char 95 c.args.text.now c.strip_prefix.result c.strip_prefix.ensures.cases (lit< tt))
