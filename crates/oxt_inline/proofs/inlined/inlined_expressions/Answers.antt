-- What is inlined by the table is what is inlined.
use Rattle.std.proofs.Common.{◌∙◌, sym}
use Rattle.oxt_inline.proofs.Tables.{inlined_by_table}
use Rattle.oxt_inline.specs.Constants.{table_at}
use Rattle.oxt_options.specs.Facts.{is_in}
use Rattle.oxt_options.specs.Options.{typescript_view}
use Rattle.oxt_tree.specs.View.{node_doc}
use Rattle.oxt_inline.proofs.inlined.inlined_expressions.Goals as goal

pub returns-in_ok-constants : goal.returns-in_ok-constants
returns-in_ok-constants c =
    inlined_by_table c.inlined_with.result (table_at c.in_ok-constants.constants) c.args.scoping.now (is_in c.args.kept.now) (node_doc c.args.program.now) (typescript_view c.args.options.now) c.in_ok-constants.ensures (sym c.optimizes.ensures ∙ c.if-optimizes.true) c.inlined_with.ensures
