-- Nothing is told of a name that holds no nodes.
use Rattle.std.proofs.Common.{◌∙◌, sym}
use Rattle.oxt_check.proofs.Quiet.{nothing_told}
use Rattle.oxt_options.specs.Facts.{is_in}
use Rattle.oxt_options.specs.Options.{transform_view}
use Rattle.oxt_tree.specs.View.{docs_in}
use Rattle.oxt_check.proofs.tell.+tell.Goals as goal

pub tell_of_node-returns-then-is_quiet : goal.tell_of_node-returns-then-is_quiet
tell_of_node-returns-then-is_quiet t c =
    nothing_told c.args.told.now.items c.args.node.now.kind c.args.node.now.id.0 c.args.node.now.span.start c.args.node.now.span.end (docs_in c.args.node.now.parts.items) (is_in c.args.sight.now.plan.now.kept) (transform_view c.args.sight.now.options.now) c.args.seat c.args.holds (sym c.is_quiet.ensures ∙ c.if-is_quiet.true)
