-- What is kept so far stands in front of what is kept of the rest.
use Rattle.std.proofs.Common.{◌≡◌, ◌++◌, drop}
use Rattle.oxt_modules.specs.Kept.{kept_in_list, uses_view}
use Rattle.oxt_modules.specs.Symbols.{table_of}
use Rattle.oxt_options.specs.Options.{typescript_view}
use Rattle.oxt_options.specs.Lists.{numbers_in}
use Rattle.oxt_tree.specs.View.{docs_in}
use Rattle.oxt_modules.proofs.kept.push_specifiers.Given as goal

abbrev pub invariant-loop-part : goal.invariant-loop-part
invariant-loop-part l =
    numbers_in l.initial.out.items ++ kept_in_list (table_of l.symbols) (typescript_view l.options) (uses_view l.uses) l.place (docs_in l.parts)
    ≡ numbers_in l.out.items ++ kept_in_list (table_of l.symbols) (typescript_view l.options) (uses_view l.uses) l.place (docs_in (drop l.part-index l.parts))
