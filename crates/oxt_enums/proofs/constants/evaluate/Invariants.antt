-- What is known tells of the members so far, and their texts were counted.
use Rattle.oxt_enums.proofs.Evaluations.{CountedTo}
use Rattle.oxt_enums.proofs.constants.evaluate.Given as goal

abbrev pub invariant-loop-member : goal.invariant-loop-member
invariant-loop-member l = CountedTo l.member-index l.owners l.homes l.members l.known l.budget
