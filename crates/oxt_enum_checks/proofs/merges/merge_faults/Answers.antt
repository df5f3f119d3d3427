-- Where no block emits code, there is nothing to be found.
use Rattle.oxt_enum_checks.specs.Places.{places_in}
use Rattle.oxt_enum_checks.proofs.Blockless.{no_clash, no_late}
use Rattle.oxt_enum_checks.proofs.merges.merge_faults.Goals as goal

pub returns-then-not-has_blocks-clause-late_base : goal.returns-then-not-has_blocks-clause-late_base
returns-then-not-has_blocks-clause-late_base c =
    no_late (places_in c.args.places.now) c.args.scoping.now c.args.blocks.now c.has_blocks.result c.has_blocks.ensures c.if-not-has_blocks.true

pub returns-then-not-has_blocks-clause-clash : goal.returns-then-not-has_blocks-clause-clash
returns-then-not-has_blocks-clause-clash c =
    no_clash (places_in c.args.places.now) c.args.scoping.now c.args.blocks.now c.has_blocks.result c.has_blocks.ensures c.if-not-has_blocks.true
