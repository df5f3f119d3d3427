-- The blocks that are dropped by the set are those that are dropped.
use Rattle.std.proofs.Common.{◌∙◌, sym}
use Rattle.oxt_dropped.proofs.Drops.{ok_by_needs}
use Rattle.oxt_metadata.specs.Symbols.{is_in as is_named_in}
use Rattle.oxt_options.specs.Facts.{is_in}
use Rattle.oxt_options.specs.Options.{typescript_view}
use Rattle.oxt_tree.specs.View.{node_doc}
use Rattle.oxt_dropped.proofs.dropped.dropped_blocks.Goals as goal

pub returns-in_ok-needed : goal.returns-in_ok-needed
returns-in_ok-needed c =
    ok_by_needs c.dropped_by.result c.in_ok-needed.needed.keys c.args.scoping.now (is_in c.args.kept.now) (is_named_in c.args.named.now) (node_doc c.args.program.now) (typescript_view c.args.options.now) c.args.legacy c.in_ok-needed.ensures (sym c.optimizes.ensures ∙ c.if-optimizes.true) (sym c.is_definition_file.ensures ∙ c.if-not-is_definition_file.true) c.dropped_by.ensures
