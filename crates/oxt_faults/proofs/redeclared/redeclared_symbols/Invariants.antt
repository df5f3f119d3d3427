-- The first symbols have been looked at.
use Rattle.std.proofs.Common.{◌-◌, length}
use Rattle.oxt_faults.specs.Redeclared.{has_other}
use Rattle.oxt_faults.proofs.Symbols.{IsNoted}
use Rattle.oxt_options.specs.Facts.{is_in}
use Rattle.oxt_faults.proofs.redeclared.redeclared_symbols.Given as goal

abbrev pub decreases-loop-marks : goal.decreases-loop-marks
decreases-loop-marks l = length l.scoping.symbols - length l.marks.items

abbrev pub invariant-loop-marks : goal.invariant-loop-marks
invariant-loop-marks l = IsNoted (has_other (is_in l.own)) l.scoping.symbols l.marks.items
