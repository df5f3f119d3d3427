-- What is kept so far stands in front of what is kept of the rest.
use Rattle.std.proofs.Common.{◌≡◌, ◌++◌, drop}
use Rattle.oxt_modules.specs.Kept.{kept_aliases}
use Rattle.oxt_modules.specs.Symbols.{table_of}
use Rattle.oxt_options.specs.Options.{typescript_view}
use Rattle.oxt_options.specs.Lists.{numbers_in}
use Rattle.oxt_modules.proofs.kept.push_aliases.Given as goal

abbrev pub invariant-loop-alias : goal.invariant-loop-alias
invariant-loop-alias l =
    numbers_in l.initial.out.items ++ kept_aliases (table_of l.symbols) (typescript_view l.options) l.aliases
    ≡ numbers_in l.out.items ++ kept_aliases (table_of l.symbols) (typescript_view l.options) (drop l.alias-index l.aliases)
