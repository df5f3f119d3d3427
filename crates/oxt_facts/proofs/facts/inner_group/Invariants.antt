-- What the blocks so far say goes on through those that are left.
use Rattle.std.proofs.Common.{◌≡◌, drop, fold}
use Rattle.oxt_facts.specs.Owners.{inner_group, inner_if}
use Rattle.oxt_facts.proofs.facts.inner_group.Given as goal

abbrev pub invariant-loop-block : goal.invariant-loop-block
invariant-loop-block l = inner_group l.blocks l.group ≡ fold (inner_if l.group) l.found (drop l.block-index l.blocks)
