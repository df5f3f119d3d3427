use Rattle.std.proofs.Common.{◌≡◌, ◌++◌, map}
use Rattle.oxt_forms.proofs.Details.{details_from}
use Rattle.oxt_facts.specs.Entry.{atom_doc}
use Rattle.oxt_forms.proofs.put.details_of.Given as goal

abbrev pub invariant-loop-i : goal.invariant-loop-i
invariant-loop-i l = details_from 0 l.rows l.parts ≡ map atom_doc l.found.items ++ details_from l.i l.rows l.parts
