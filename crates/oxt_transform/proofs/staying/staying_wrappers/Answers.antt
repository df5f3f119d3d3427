-- Where no diagnostic tells of a wrapper, none stays.
use Rattle.std.proofs.Common.{◌∙◌, sym, ap}
use Rattle.oxt_options.specs.Options.{transform_view}
use Rattle.oxt_transform.proofs.Told.{no_targets}
use Rattle.oxt_transform.specs.Lowering.{tells_of_wrapper}
use Rattle.oxt_tree.specs.View.{node_doc}
use Rattle.oxt_transform.proofs.staying.staying_wrappers.Goals as goal

pub returns-else-tells_of_wrapper : goal.returns-else-tells_of_wrapper
returns-else-tells_of_wrapper c =
    λ ks are. c.none.ensures ∙ sym (no_targets ks (transform_view c.args.options.now) (node_doc c.args.source.now) (sym (ap tells_of_wrapper are) ∙ sym c.tells_of_wrapper.ensures ∙ c.if-tells_of_wrapper.false))
