-- What is left of both decides.
use Rattle.std.proofs.Common.{◌≡◌, drop}
use Rattle.oxt_certificate.specs.Exports.{same_spans}
use Rattle.oxt_certificate.proofs.exports.same_spans.Given as goal

abbrev pub invariant-loop-i : goal.invariant-loop-i
invariant-loop-i l = same_spans l.a l.b ≡ same_spans (drop l.i l.a) (drop l.i l.b)
