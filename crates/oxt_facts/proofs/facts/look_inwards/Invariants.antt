-- What the classes so far say goes on through those that are left.
use Rattle.std.proofs.Common.{◌≡◌, drop, fold, option_map}
use Rattle.oxt_facts.specs.Privates.{stored_by, stored_in}
use Rattle.oxt_facts.specs.Shared.{all_shared}
use Rattle.oxt_facts.proofs.facts.look_inwards.Given as goal

abbrev pub invariant-loop-class : goal.invariant-loop-class
invariant-loop-class l = stored_by (all_shared l.classes) l.name ≡ fold (stored_in l.name) (option_map (λ made. made.now) l.found) (all_shared (drop l.class-index l.classes))
