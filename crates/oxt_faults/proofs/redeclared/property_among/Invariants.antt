-- The earliest so far, with the parameters that are left, decides.
use Rattle.std.proofs.Common.{◌≡◌, drop, fold, option_map}
use Rattle.oxt_faults.specs.Earliest.{moved_view}
use Rattle.oxt_faults.specs.Redeclared.{mark_by, property_among, property_behind}
use Rattle.oxt_tree.specs.Fields.{docs_list}
use Rattle.oxt_tree.specs.View.{docs_in}
use Rattle.oxt_faults.proofs.redeclared.property_among.Given as goal

abbrev pub invariant-loop-parameter : goal.invariant-loop-parameter
invariant-loop-parameter l =
    property_among l.scoping (mark_by l.again) l.scope (docs_in l.parameters)
    ≡ fold (property_behind l.scoping (mark_by l.again) l.scope) (option_map moved_view l.least) (docs_list (docs_in (drop l.parameter-index l.parameters)))
