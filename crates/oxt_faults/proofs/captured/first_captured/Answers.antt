-- The marks are those of the symbols that are captured.
use Rattle.std.proofs.Common.{◌∙◌, sym, None}
use Rattle.oxt_options.specs.Facts.{is_in}
use Rattle.oxt_tree.specs.View.{node_doc}
use Rattle.oxt_faults.proofs.Symbols.{all_found}
use Rattle.oxt_faults.proofs.Unmarked.{none_marked}
use Rattle.oxt_fields.specs.Rules.{rules_view}
use Rattle.oxt_faults.proofs.captured.first_captured.Goals as goal

pub returns-then-has_mark : goal.returns-then-has_mark
returns-then-has_mark c =
    all_found (rules_view c.args.rules) c.args.scoping.now (is_in c.args.left_out.now) c.as_slice-marked.result.now (node_doc c.args.program.now) _ (c.as_slice-marked.ensures.value ∙ c.in_ok-marks.ensures) c.first_by_marks.ensures

pub returns : goal.returns
returns c =
    let marks = c.as_slice-marked.result.now in
    all_found (rules_view c.args.rules) c.args.scoping.now (is_in c.args.left_out.now) marks (node_doc c.args.program.now) None (c.as_slice-marked.ensures.value ∙ c.in_ok-marks.ensures)
    (none_marked (rules_view c.args.rules) c.args.scoping.now marks (node_doc c.args.program.now) (sym c.has_mark.ensures ∙ c.if-has_mark.false))
