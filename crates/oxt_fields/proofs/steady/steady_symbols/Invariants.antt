-- The first symbols have been looked at.
use Rattle.std.proofs.Common.{◌-◌, length}
use Rattle.oxt_fields.specs.Written.{is_steady}
use Rattle.oxt_fields.proofs.Symbols.{IsNoted}
use Rattle.oxt_fields.proofs.steady.steady_symbols.Given as goal

abbrev pub decreases-loop-marks : goal.decreases-loop-marks
decreases-loop-marks l = length l.scoping.symbols - length l.marks.items

abbrev pub invariant-loop-marks : goal.invariant-loop-marks
invariant-loop-marks l = IsNoted (is_steady l.scoping.references) l.scoping.symbols l.marks.items
