-- The spans so far stand in front of those of what is left.
use Rattle.std.proofs.Common.{◌≡◌, ◌++◌, drop}
use Rattle.oxt_certificate.specs.Exports.{empty_exports}
use Rattle.oxt_tree.specs.View.{docs_in}
use Rattle.oxt_certificate.proofs.exports.push_empty_exports.Given as goal

abbrev pub invariant-loop-statement : goal.invariant-loop-statement
invariant-loop-statement l = l.initial.spans.items ++ empty_exports (docs_in l.statements) ≡ l.spans.items ++ empty_exports (docs_in (drop l.statement-index l.statements))
