-- The text is split at its last dot.
use Rattle.oxt_options.proofs.Dots.{around_is}
use Rattle.oxt_options.proofs.rewrite.around_dot.Goals as goal

pub returns : goal.returns
returns c = around_is c.args.text.now c.rsplit_once.result c.rsplit_once.ensures.cases
