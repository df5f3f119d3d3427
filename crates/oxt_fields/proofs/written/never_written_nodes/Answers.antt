-- The marks are those of the symbols that keep their values.
use Rattle.std.proofs.Common.{◌∙◌}
use Rattle.oxt_options.specs.Lists.{numbers_in}
use Rattle.oxt_tree.specs.View.{node_doc}
use Rattle.oxt_fields.proofs.Symbols.{marked_found}
use Rattle.oxt_fields.proofs.written.never_written_nodes.Goals as goal

pub returns : goal.returns
returns c =
    marked_found (λ nodes. numbers_in nodes.items) c.marked_nodes.result c.args.scoping.now c.as_slice.result.now (node_doc c.args.program.now)
    (c.as_slice.ensures.value ∙ c.in_ok-marks.ensures) c.marked_nodes.ensures
