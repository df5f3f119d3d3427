-- The marks are those of the symbols that are declared again.
use Rattle.std.proofs.Common.{◌∙◌, option_map}
use Rattle.oxt_faults.specs.Earliest.{moved_view}
use Rattle.oxt_fields.specs.Rules.{rules_view}
use Rattle.oxt_tree.specs.View.{node_doc}
use Rattle.oxt_faults.proofs.Bindings.{again_found}
use Rattle.oxt_faults.proofs.moved.first_moved_capture.Goals as goal

pub returns : goal.returns
returns c =
    again_found (λ found. option_map moved_view found) c.capture_with.result c.args.scoping.now (rules_view c.args.rules) (node_doc c.args.program.now) c.in_ok-own.own c.as_slice.result.now
    c.in_ok-own.ensures (c.as_slice.ensures.value ∙ c.in_ok-again.ensures) c.capture_with.ensures
