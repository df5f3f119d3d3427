use Rattle.std.proofs.Common.{◌≡◌, ◌++◌, map}
use Rattle.oxt_cases.proofs.Shows.{data_from}
use Rattle.serde_json.specs.View.{view}
use Rattle.oxt_cases.proofs.items.put_atoms.Given as goal

abbrev pub invariant-loop-atom : goal.invariant-loop-atom
invariant-loop-atom l = map view l.initial.values.items ++ data_from 0 l.atoms ≡ map view l.values.items ++ data_from l.atom-index l.atoms
