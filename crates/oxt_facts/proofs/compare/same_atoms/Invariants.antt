use Rattle.std.proofs.Common.{◌≡◌, map, drop}
use Rattle.oxt_facts.specs.Compare.{same_atoms}
use Rattle.oxt_facts.specs.Entry.{atom_doc}
use Rattle.oxt_facts.proofs.compare.same_atoms.Given as goal

abbrev pub invariant-loop-i : goal.invariant-loop-i
invariant-loop-i l = same_atoms (map atom_doc l.a) (map atom_doc l.b) ≡ same_atoms (map atom_doc (drop l.i l.a)) (map atom_doc (drop l.i l.b))
