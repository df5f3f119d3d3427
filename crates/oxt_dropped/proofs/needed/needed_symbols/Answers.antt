-- What is needed by the table is what is needed.
use Rattle.oxt_dropped.proofs.Needs.{needed_by_table}
use Rattle.oxt_inline.specs.Constants.{table_at}
use Rattle.oxt_options.specs.Facts.{is_in}
use Rattle.oxt_options.specs.Options.{typescript_view}
use Rattle.oxt_tree.specs.View.{node_doc}
use Rattle.oxt_dropped.proofs.needed.needed_symbols.Goals as goal

pub returns : goal.returns
returns c =
    needed_by_table c.needed_with.result (table_at c.in_ok-constants.constants) c.args.scoping.now (is_in c.args.kept.now) (node_doc c.args.program.now) (typescript_view c.args.options.now) c.args.legacy c.in_ok-constants.ensures c.needed_with.ensures
