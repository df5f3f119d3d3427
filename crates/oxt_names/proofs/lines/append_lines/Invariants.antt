-- The lines so far stand in front of those of what is left.
use Rattle.std.proofs.Common.{◌≡◌, ◌++◌, drop}
use Rattle.oxt_names.specs.Line.{lines_of}
use Rattle.oxt_names.proofs.lines.append_lines.Given as goal

abbrev pub invariant-loop-diagnostic : goal.invariant-loop-diagnostic
invariant-loop-diagnostic l = l.initial.text.items ++ lines_of l.diagnostics ≡ l.text.items ++ lines_of (drop l.diagnostic-index l.diagnostics)
