-- What is left out so far stands in front of what is left out of the rest.
use Rattle.std.proofs.Common.{◌≡◌, ◌++◌, drop}
use Rattle.oxt_modules.specs.Aliases.{left_out_names}
use Rattle.oxt_options.specs.Facts.{is_in}
use Rattle.oxt_options.specs.Lists.{numbers_in}
use Rattle.oxt_modules.proofs.alias.names_left_out.Given as goal

abbrev pub invariant-loop-alias : goal.invariant-loop-alias
invariant-loop-alias l =
    left_out_names (is_in l.kept) l.aliases ≡ numbers_in l.names.items ++ left_out_names (is_in l.kept) (drop l.alias-index l.aliases)
